-- The last field of a name, as it is found from the front.
use Rattle.std.proofs.Common.{◌≡◌, Bool, true, false, cond, Option, Some, None, refl}
use Rattle.std.specs.Option.{option_or}
use Rattle.dg_ptext.specs.declared.tree.Value.{Value}

-- a later one comes before the one here, and that before an earlier one
pub last_later : (later : Option Value) (named : Bool) (v : Value) (found : Option Value)
    → option_or (option_or later (cond named (Some v) None)) found ≡ option_or later (cond named (Some v) found)
last_later (Some w) named v found = refl
last_later None true v found = refl
last_later None false v found = refl
