-- What contracts see of a world.
use Rattle.std.specs.Prelude.{ℕ, List, [], Option, Some, None, slice_get, refl}
use Rattle.std.specs.Coded.{Coded, code_by, coded×, coded_ℕ, coded_list, coded_option}
use Rattle.dg_line.specs.Revisions.{Seen, seen_code}
use Rattle.dg_line.specs.Tickets.{Pin, pin_code}
use Rattle.dg_offer.specs.Offers.{Offered, offered_code}
use Rattle.dg_desk.specs.Desks.{Desked, desk_code}
use Rattle.dg_editor.specs.Seeing.{Editing, editing_code}

-- the editor, the desk, the pins by their numbers, where one that was dropped is none, the offers by theirs, and
-- how many productions were made
pub record Worlded (N M : Type 0) : Type 0 where
  pub editor : Editing N M
  pub desk : Desked Seen M
  pub pins : List (Option (Pin Seen M))
  pub offers : List (Offered Seen M)
  pub made : ℕ

-- nothing happened yet: the desk is at the editor's revision, with a cache for so many entries
abbrev pub begun : {N M : Type 0} → ℕ → Editing N M → Worlded N M
begun capacity e = record {
  editor = e;
  desk = record { opened = e.here; capacity = capacity; entries = []; history = []; pass = 0 };
  pins = [];
  offers = [];
  made = 0;
}

-- the ticket of a live pin
abbrev pub if_live : {P : Type 0} → Option (Option P) → Option P
if_live None = None
if_live (Some p) = p

abbrev pub pin_at : {P : Type 0} → List (Option P) → ℕ → Option P
pin_at ps n = if_live (slice_get ps n)

abbrev pins_code : {M : Type 0} → Coded M → Coded (List (Option (Pin Seen M)))
pins_code mark = coded_list (coded_option (pin_code seen_code mark))

abbrev offers_code : {M : Type 0} → Coded M → Coded (List (Offered Seen M))
offers_code mark = coded_list (offered_code seen_code mark)

abbrev pub world_code : {N M : Type 0} → Coded N → Coded M → Coded (Worlded N M)
world_code {N} {M} line mark =
    code_by (Editing N M × (Desked Seen M × (List (Option (Pin Seen M)) × (List (Offered Seen M) × ℕ))))
    (coded× (editing_code line mark) (coded× (desk_code seen_code mark) (coded× (pins_code mark) (coded× (offers_code mark) coded_ℕ))))
    (λ w. (w.editor, (w.desk, (w.pins, (w.offers, w.made)))))
    (λ q. record { editor = q.0; desk = q.1.0; pins = q.1.1.0; offers = q.1.1.1.0; made = q.1.1.1.1 }) (λ _. refl)
