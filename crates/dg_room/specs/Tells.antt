-- What a call of a room does to the desk, and what it tells of its answer and of its pass, whatever it found under the lock.
use Rattle.std.specs.Prelude.{◌≡◌, ℕ, Bool, true, false, length, Option, Some, None}
use Rattle.dg_cache.specs.declared.cache.Evicted.{Evicted}
use Rattle.dg_desk.specs.declared.event.Followed.{Followed}
use Rattle.dg_desk.specs.declared.event.Published.{Published}
use Rattle.dg_desk.specs.declared.event.PublishEnd.TheVariants as end_of
use Rattle.dg_desk.specs.Desks.{Desked, IsFollowed, IsPublishEnd, IsEvicted}
use Rattle.dg_offer.specs.Offers.{Offered}
use Rattle.dg_room.specs.Made.{Passed, passed, with_publication, with_eviction}

-- a desk whose next record has this pass
abbrev pub at_pass : {A B : Type 0} → ℕ → Desked A B → Desked A B
at_pass pass d = record { opened = d.opened; capacity = d.capacity; entries = d.entries; history = d.history; pass = pass }

-- a desk at some index gives the answer to a link from this one
pub record CanFollow (from : ℕ) (a : Followed) : Type 0 where
  pub had : ℕ
  pub is : IsFollowed had from a

-- a desk that lists the offer's revision, or doesn't, and keeps so many of its entries gives the answer
pub record CanPublish {A B : Type 0} (o : Offered A B) (a : Published) : Type 0 where
  pub listed : Bool
  pub kept : ℕ
  pub is : IsPublishEnd listed o.ticket.index (length o.entries) kept a a.end

-- a publication counts where it has a place in the history, and another one found no memory
abbrev pub PublishTells : {A B : Type 0} → Offered A B → Passed → Passed → Published → Option ℕ → Type 0
PublishTells o p q a (Some place) = (q ≡ passed p.number (with_publication p.made)) × CanPublish o a
PublishTells o p q a None = (q ≡ p) × (a.end ≡ end_of.NoMemory) × (a.done ≡ 0)

-- a desk with so many entries gives the answer
pub record CanEvict (most : ℕ) (a : Evicted) : Type 0 where
  pub entries : ℕ
  pub is : IsEvicted most entries a.gone a.end

-- an eviction counts unless none is gone for want of memory
abbrev pub EvictTells : ℕ → Passed → Passed → Evicted → Bool → Type 0
EvictTells most p q a true = q ≡ p
EvictTells most p q a false = (q ≡ passed p.number (with_eviction p.made)) × CanEvict most a
