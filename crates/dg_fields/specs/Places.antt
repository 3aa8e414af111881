-- Where the value at a label stands, or has to stand, among values in label order.
use Rattle.std.specs.Prelude.{ℕ, suc, List, [], ◌∷◌, Bool, false, cond, Option, Some, None, nat_le}
use Rattle.dg_base.specs.declared.ids.Label.{Label}
use Rattle.dg_base.specs.declared.datum.FieldOf.{FieldOf}
use Rattle.dg_base.specs.Same.{same_label}

-- the first place with this label or a larger one
abbrev pub place_of : List FieldOf → Label → ℕ
place_of [] l = 0
place_of (f ∷ fs) l = cond (nat_le l.0 f.label.0) 0 (suc (place_of fs l))

abbrev pub has_label : Option FieldOf → Label → Bool
has_label None l = false
has_label (Some f) l = same_label f.label l
