-- Entries that can be undone and entries that can be done again, the latest of each first.
use Rattle.std.specs.Prelude.{List, [], ◌∷◌, Option, Some, None, refl}
use Rattle.std.specs.Coded.{Coded, code_by, coded×, coded_list}

pub record History (T : Type 0) : Type 0 where
  pub undo : List T
  pub redo : List T

abbrev pub history_code : {T : Type 0} → Coded T → Coded (History T)
history_code {T} entry = code_by (List T × List T) (coded× (coded_list entry) (coded_list entry)) (λ h. (h.undo, h.redo)) (λ p. record { undo = p.0; redo = p.1 }) (λ _. refl)

-- the latest entry of a list
abbrev pub latest : {T : Type 0} → List T → Option T
latest [] = None
latest (x ∷ xs) = Some x

-- one more entry to undo, and none to do again
abbrev pub recorded : {T : Type 0} → History T → T → History T
recorded h x = record { undo = x ∷ h.undo; redo = [] }

-- the latest entry of one list, if there is one, is the latest of the other
abbrev pub undone_from : {T : Type 0} → List T → List T → History T
undone_from [] redo = record { undo = []; redo = redo }
undone_from (x ∷ undo) redo = record { undo = undo; redo = x ∷ redo }

abbrev pub undone : {T : Type 0} → History T → History T
undone h = undone_from h.undo h.redo

abbrev pub redone_from : {T : Type 0} → List T → List T → History T
redone_from undo [] = record { undo = undo; redo = [] }
redone_from undo (x ∷ redo) = record { undo = x ∷ undo; redo = redo }

abbrev pub redone : {T : Type 0} → History T → History T
redone h = redone_from h.undo h.redo
