-- The stack of open messages.
use Rattle.std.proofs.Common.{◌≡◌, List, [], ◌∷◌, ◌++◌, refl, ap, Some}
use Rattle.dg_ptext.specs.declared.state.Opened.{Opened}
use Rattle.dg_ptext.specs.Reading.{innermost, with_outer}

pub innermost-append : (around : List Opened) (last : Opened) → innermost (around ++ last ∷ []) ≡ Some (around, last)
innermost-append [] last = refl
innermost-append (first ∷ around) last = ap (λ found. Some (with_outer first found)) (innermost-append around last)
