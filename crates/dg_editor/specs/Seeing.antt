-- What contracts see of an editor: its line, the tickets of its revisions, and its changes.
use Rattle.std.specs.Prelude.{◌≡◌, List, map, refl}
use Rattle.std.specs.Coded.{Coded, code_by, coded×, coded_list}
use Rattle.dg_history.specs.History.{History, history_code}
use Rattle.dg_line.specs.Tickets.{Pin, pin_code}
use Rattle.dg_line.specs.Revisions.{Seen, seen_code}
use Rattle.dg_editor.specs.Changes.{Changed, changed_code}
use Rattle.dg_editor.specs.Machine.{State}

-- the current ticket, those before it, the latest first, and the changes
pub record Editing (N M : Type 0) : Type 0 where
  pub line : N
  pub here : Pin Seen M
  pub passed : List (Pin Seen M)
  pub history : History Changed

abbrev tickets_code : {M : Type 0} → Coded M → Coded (List (Pin Seen M))
tickets_code mark = coded_list (pin_code seen_code mark)

abbrev changes_code : Coded (History Changed)
changes_code = history_code changed_code

abbrev pub editing_code : {N M : Type 0} → Coded N → Coded M → Coded (Editing N M)
editing_code {N} {M} line mark =
    code_by (N × (Pin Seen M × (List (Pin Seen M) × History Changed)))
    (coded× line (coded× (pin_code seen_code mark) (coded× (tickets_code mark) changes_code)))
    (λ e. (e.line, (e.here, (e.passed, e.history)))) (λ q. record { line = q.0; here = q.1.0; passed = q.1.1.0; history = q.1.1.1 }) (λ _. refl)

-- the editor's state, without the line and the places in it
abbrev pub state_of : {N M : Type 0} → Editing N M → State
state_of e = record { now = e.here.revision; passed = map (λ p. p.revision) e.passed; history = e.history }

-- the revisions and the changes are as they were. The line may hold one revision more, of which nobody has
-- a ticket
pub record IsUnchanged {N M : Type 0} (before after : Editing N M) : Type 0 where
  pub here : after.here ≡ before.here
  pub passed : after.passed ≡ before.passed
  pub history : after.history ≡ before.history
