-- How a desk finds its revisions and numbers its records without reading them all: where the records stand that
-- brought the listed revisions, and how many records each pass has.
use Rattle.std.specs.Prelude.{◌≡◌, ◌≤◌, ◌<◌, ◌+◌, ◌-◌, ℕ, List, [], ◌∷◌, Bool, true, false, map, length, slice_get, Option, Some, None}
use Rattle.std.specs.List.{Contains}
use Rattle.dg_base.specs.Tables.{Tables}
use Rattle.dg_line.specs.Revisions.{Seen}
use Rattle.dg_line.specs.Tickets.{Pin}
use Rattle.dg_desk.specs.declared.event.TheConstants.{PASSES}
use Rattle.dg_desk.specs.declared.event.What.TheVariants as what
use Rattle.dg_desk.specs.declared.event.Followed.{Followed}
use Rattle.dg_desk.specs.declared.event.Followed.TheVariants as followed
use Rattle.dg_desk.specs.Machine.{Act, Event, is_listed}
use Rattle.dg_desk.specs.Desks.{Desked, IsDesk, nth_of, spare, state_of}

-- the ticket that an act brings, or else the one before
abbrev pub now_after : {A B : Type 0} → Pin A B → Act A B → Pin A B
now_after p (what.Follow link a) = link.to
now_after p (what.Settle to) = to
now_after p _ = p

abbrev pub pin_from : {A B : Type 0} → Pin A B → Option (Event A B) → Pin A B
pin_from p None = p
pin_from p (Some e) = now_after p e.what

-- the ticket at a place: that of the opening, or the one that a record brought
abbrev pub pin_at : {A B : Type 0} → Pin A B → List (Event A B) → Option ℕ → Pin A B
pin_at p hs None = p
pin_at p hs (Some k) = pin_from p (slice_get hs k)

abbrev pub pins_at : {A B : Type 0} → Pin A B → List (Event A B) → List (Option ℕ) → List (Pin A B)
pins_at p hs ks = map (pin_at p hs) ks

-- the ticket at the last place, or else that of the opening
abbrev pub pin_or : {A B : Type 0} → Pin A B → List (Event A B) → Option (Option ℕ) → Pin A B
pin_or p hs None = p
pin_or p hs (Some k) = pin_at p hs k

abbrev pub last_pin : {A B : Type 0} → Pin A B → List (Event A B) → List (Option ℕ) → Pin A B
last_pin p hs ks = pin_or p hs (slice_get ks (length ks - 1))

-- each place is the opening, or one of so many records
abbrev pub ArePlaces : ℕ → List (Option ℕ) → Type 0
ArePlaces n [] = Unit {0}
ArePlaces n (None ∷ ks) = ArePlaces n ks
ArePlaces n (Some k ∷ ks) = (k < n) × ArePlaces n ks

-- how many records each pass has
abbrev pub AreCounts : {A B : Type 0} → List (Event A B) → List ℕ → Type 0
AreCounts hs counts = (pass : ℕ) → pass < PASSES → slice_get counts pass ≡ Some (nth_of pass hs)

-- whether a follow begins the listed revisions anew
abbrev pub is_restart : Followed → Bool
is_restart (followed.Restarted had wanted) = true
is_restart _ = false

-- what a desk keeps beside what contracts see: how many more follow and settle records it has room for, in a
-- history of a length and capacity; the places of the listed revisions, in order, with a capacity; and the counts
pub record IsFiled {A B : Type 0} (see : A → Seen) (t : Tables) (d : Desked A B) (left len room : ℕ) (ks : List (Option ℕ)) (ks_room : ℕ) (counts : List ℕ) : Type 0 where
  pub desk : IsDesk see t d
  pub pass : d.pass < PASSES
  pub left_is : left ≡ spare d.history
  pub records_fit : len + left ≤ room
  pub pins : pins_at d.opened d.history ks ≡ (state_of see d).list
  pub places : ArePlaces (length d.history) ks
  pub places_fit : length ks + left ≤ ks_room
  pub counted : AreCounts d.history counts

-- what was found among tickets
abbrev pub IsFound : {A B : Type 0} → ℕ → List (Pin A B) → Option (Pin A B) → Type 0
IsFound i list None = is_listed list i ≡ false
IsFound i list (Some p) = Contains list p × (p.index ≡ i)
