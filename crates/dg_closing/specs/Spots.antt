-- Endpoints with their counters, as a history published them.
use Rattle.std.specs.Prelude.{◌≡◌, ℕ, ◌==◌, ◌&&◌, Bool, List, Some, slice_get}
use Rattle.std.specs.List.{Contains, list_any}
use Rattle.dg_base.specs.declared.ids.Endpoint.{Endpoint}
use Rattle.dg_base.specs.Same.{same_end}
use Rattle.dg_cache.specs.declared.entry.Entry.{Entry}
use Rattle.dg_line.specs.Revisions.{Seen, counter_at}
use Rattle.dg_offer.specs.Offers.{Offered}
use Rattle.dg_desk.specs.declared.event.What.TheVariants as what
use Rattle.dg_desk.specs.declared.event.Published.{Published}
use Rattle.dg_desk.specs.Machine.{Event}
use Rattle.dg_asks.specs.Asks.{Ask}
use Rattle.dg_asks.specs.Told.{ask_of}
use Rattle.dg_closing.specs.declared.spots.Spot.{Spot}

-- an endpoint with its counter in a revision
abbrev pub spot_of : Seen → Endpoint → Spot
spot_of r e = record { at = e; counter = counter_at r e }

-- whether one is among some
abbrev pub same_spot : Spot → Spot → Bool
same_spot a b = same_end a.at b.at && (a.counter == b.counter)

abbrev pub is_spot_among : List Spot → Spot → Bool
is_spot_among ss s = list_any (same_spot s) ss

-- it is that of an entry
pub record HasSpot (r : Seen) (es : List Entry) (s : Spot) : Type 0 where
  pub entry : Entry
  pub among : Contains es entry
  pub is : s ≡ spot_of r entry.at

-- an offer that was published has it, at its revision
pub record IsSpotted {A B : Type 0} (see : A → Seen) (hs : List (Event A B)) (s : Spot) : Type 0 where
  pub event : Event A B
  pub offer : Offered A B
  pub answer : Published
  pub among : Contains hs event
  pub is : event.what ≡ what.Publish offer answer
  pub has : HasSpot (see offer.ticket.revision) offer.entries s

abbrev pub AreSpotted : {A B : Type 0} → (A → Seen) → List (Event A B) → List Spot → Type 0
AreSpotted see hs ss = (s : Spot) → Contains ss s → IsSpotted see hs s

-- an offer is the answer of the ask at a place, which is its number, and all that it found known is there
pub record TellsAt {M : Type 0} (see : Seen → Seen) (ss : List Spot) (asks : List Ask) (k : ℕ) (o : Offered Seen M) : Type 0 where
  pub number : o.ask ≡ k
  pub ask : (a : Ask) → slice_get asks k ≡ Some a → ask_of o ≡ a
  pub hits : (e : Endpoint) → Contains o.hits e → Contains ss (spot_of (see o.ticket.revision) e)
