-- When a desk is coherent, so that each of its entries is right and stays so.
use Rattle.std.specs.Prelude.{◌≡◌, ◌≤◌, ◌<◌, List, [], ◌∷◌, ◌++◌}
use Rattle.std.specs.List.{Contains, AllPairs}
use Rattle.dg_base.specs.declared.ids.Endpoint.{Endpoint}
use Rattle.dg_base.specs.Tables.{Tables}
use Rattle.dg_base.specs.Value.{value_at}
use Rattle.dg_cache.specs.declared.entry.Entry.{Entry}
use Rattle.dg_line.specs.Revisions.{Seen, counter_at}
use Rattle.dg_line.specs.Tickets.{Pin}
use Rattle.dg_offer.specs.Offers.{Offered, AreValues, IsOffer}
use Rattle.dg_desk.specs.declared.event.What.TheVariants as what
use Rattle.dg_desk.specs.declared.event.Published.{Published}
use Rattle.dg_desk.specs.Machine.{Event, State}

-- an earlier revision: its number and counters are not above those of now, and where a counter is the same, so
-- is the value
pub record IsFit (t : Tables) (r now : Seen) : Type 0 where
  pub number : r.number ≤ now.number
  pub most : (e : Endpoint) → counter_at r e ≤ counter_at now e
  pub same : (e : Endpoint) → counter_at r e ≡ counter_at now e → value_at t r.graph e ≡ value_at t now.graph e

-- an entry was published, at a revision whose counter of its endpoint is that of now
pub record IsPublished {A B : Type 0} (see : A → Seen) (now : Seen) (hs : List (Event A B)) (x : Entry) : Type 0 where
  pub offer : Offered A B
  pub answer : Published
  pub event : Event A B
  pub among : Contains hs event
  pub is : event.what ≡ what.Publish offer answer
  pub entry : Contains offer.entries x
  pub counter : counter_at (see offer.ticket.revision) x.at ≡ counter_at now x.at

-- an offer is right at the revision of its ticket
abbrev pub IsRight : {A B : Type 0} → (A → Seen) → Tables → Offered A B → Type 0
IsRight see t o = IsOffer t (see o.ticket.revision).graph o.endpoint o.entries o.hits

-- so is every offer that was published
abbrev pub AreRight : {A B : Type 0} → (A → Seen) → Tables → List (Event A B) → Type 0
AreRight {A} {B} see t hs = (e : Event A B) (o : Offered A B) (a : Published) → Contains hs e → e.what ≡ what.Publish o a → IsRight see t o

-- each entry is the value of its endpoint now; the listed revisions fit now; their numbers rise, and now is the
-- last of them; each published offer was right; and each entry was published
pub record IsCoherent {A B : Type 0} (see : A → Seen) (t : Tables) (s : State A B) (hs : List (Event A B)) : Type 0 where
  pub values : AreValues t (see s.now.revision).graph s.entries
  pub fits : (p : Pin A B) → Contains s.list p → IsFit t (see p.revision) (see s.now.revision)
  pub rise : AllPairs (λ p q. (see p.revision).number < (see q.revision).number) s.list
  pub before : List (Pin A B)
  pub last : s.list ≡ before ++ s.now ∷ []
  pub offers : AreRight see t hs
  pub sources : (x : Entry) → Contains s.entries x → IsPublished see (see s.now.revision) hs x
