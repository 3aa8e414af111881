-- What the records of a desk tell of the work that was done.
use Rattle.std.specs.Prelude.{◌≡◌, ℕ, zero, suc, List, [], ◌∷◌, ◌++◌, Bool, true, false, Some, flat_map, slice_get, sum_by}
use Rattle.std.specs.List.{Contains}
use Rattle.dg_cache.specs.declared.cache.EvictEnd.{EvictEnd}
use Rattle.dg_cache.specs.declared.cache.EvictEnd.TheVariants as evict_end
use Rattle.dg_line.specs.Revisions.{Seen}
use Rattle.dg_offer.specs.Offers.{Offered}
use Rattle.dg_desk.specs.declared.event.What.TheVariants as what
use Rattle.dg_desk.specs.declared.event.Followed.{Followed}
use Rattle.dg_desk.specs.declared.event.Followed.TheVariants as followed
use Rattle.dg_desk.specs.declared.event.Published.{Published}
use Rattle.dg_desk.specs.declared.event.PublishEnd.{PublishEnd}
use Rattle.dg_desk.specs.declared.event.PublishEnd.TheVariants as publish_end
use Rattle.dg_desk.specs.Machine.{Act, Event}
use Rattle.dg_world.specs.Laws.{HasSources}
use Rattle.dg_asks.specs.Asks.{Ask}

-- a revision is seen as it is
abbrev pub as_seen : Seen → Seen
as_seen r = r

-- ---- what one record tells

-- an offer is the answer to what was asked of its endpoint at its revision
abbrev pub ask_of : {M : Type 0} → Offered Seen M → Ask
ask_of o = record { revision = o.ticket.revision; at = o.endpoint }

abbrev pub asks_in : {M : Type 0} → Act Seen M → List Ask
asks_in (what.Publish o a) = ask_of o ∷ []
asks_in _ = []

abbrev pub numbers_in : {T M : Type 0} → Act T M → List ℕ
numbers_in (what.Publish o a) = o.ask ∷ []
numbers_in _ = []

abbrev pub kept_in : {T M : Type 0} → Act T M → ℕ
kept_in (what.Publish o a) = a.kept
kept_in _ = 0

abbrev pub late_in : {T M : Type 0} → Act T M → ℕ
late_in (what.Publish o a) = a.late
late_in _ = 0

abbrev pub follows_in : {T M : Type 0} → Act T M → ℕ
follows_in (what.Follow link a) = 1
follows_in _ = 0

abbrev pub evictions_in : {T M : Type 0} → Act T M → ℕ
evictions_in (what.Evict most a) = 1
evictions_in _ = 0

-- whether it was done whole: no memory was wanted, and the desk was never elsewhere
abbrev pub is_kept : Followed → Bool
is_kept followed.Kept = true
is_kept _ = false

abbrev pub is_all_put : PublishEnd → Bool
is_all_put publish_end.All = true
is_all_put _ = false

abbrev pub is_all_gone : EvictEnd → Bool
is_all_gone evict_end.All = true
is_all_gone evict_end.NoMemory = false

abbrev pub is_whole : {T M : Type 0} → Act T M → Bool
is_whole (what.Follow link a) = is_kept a
is_whole (what.Publish o a) = is_all_put a.end
is_whole (what.Evict most a) = is_all_gone a.end
is_whole (what.Settle to) = false

-- whether no memory was wanted
abbrev pub is_followed : Followed → Bool
is_followed followed.Cleared = false
is_followed _ = true

abbrev pub is_put : PublishEnd → Bool
is_put publish_end.NoMemory = false
is_put _ = true

abbrev pub is_unrefused : {T M : Type 0} → Act T M → Bool
is_unrefused (what.Follow link a) = is_followed a
is_unrefused (what.Publish o a) = is_put a.end
is_unrefused (what.Evict most a) = is_all_gone a.end
is_unrefused (what.Settle to) = true

-- ---- what the records of a history tell together

abbrev pub asks_told : {M : Type 0} → List (Event Seen M) → List Ask
asks_told {M} hs = flat_map (λ (e : Event Seen M). asks_in e.what) hs

abbrev pub numbers_told : {T M : Type 0} → List (Event T M) → List ℕ
numbers_told {T} {M} hs = flat_map (λ (e : Event T M). numbers_in e.what) hs

abbrev pub kept_told : {T M : Type 0} → List (Event T M) → ℕ
kept_told {T} {M} hs = sum_by (λ (e : Event T M). kept_in e.what) hs

abbrev pub late_told : {T M : Type 0} → List (Event T M) → ℕ
late_told {T} {M} hs = sum_by (λ (e : Event T M). late_in e.what) hs

abbrev pub follows_told : {T M : Type 0} → List (Event T M) → ℕ
follows_told {T} {M} hs = sum_by (λ (e : Event T M). follows_in e.what) hs

abbrev pub evictions_told : {T M : Type 0} → List (Event T M) → ℕ
evictions_told {T} {M} hs = sum_by (λ (e : Event T M). evictions_in e.what) hs

abbrev pub AreWhole : {T M : Type 0} → List (Event T M) → Type 0
AreWhole {T} {M} hs = (e : Event T M) → Contains hs e → is_whole e.what ≡ true

abbrev pub AreUnrefused : {T M : Type 0} → List (Event T M) → Type 0
AreUnrefused {T} {M} hs = (e : Event T M) → Contains hs e → is_unrefused e.what ≡ true

-- so many numbers, from 0 on
abbrev pub numbers_below : ℕ → List ℕ
numbers_below zero = []
numbers_below (suc n) = numbers_below n ++ n ∷ []

-- ---- which asks a history tells

-- a record of a history is a publication of the answer to an ask, under its number, and what its evaluation found known
-- was published before, at a revision whose counter of it is the same
pub record IsTold {M : Type 0} (hs : List (Event Seen M)) (k : ℕ) (a : Ask) : Type 0 where
  pub before : List (Event Seen M)
  pub event : Event Seen M
  pub later : List (Event Seen M)
  pub among : hs ≡ before ++ event ∷ later
  pub offer : Offered Seen M
  pub answer : Published
  pub is : event.what ≡ what.Publish offer answer
  pub number : offer.ask ≡ k
  pub ask : ask_of offer ≡ a
  pub sources : HasSources as_seen before offer

-- so it is for each of these asks, numbered by its place
abbrev pub AreTold : {M : Type 0} → List (Event Seen M) → List Ask → Type 0
AreTold hs asks = (k : ℕ) (a : Ask) → slice_get asks k ≡ Some a → IsTold hs k a
