-- One more decimal, and then the others.
use Rattle.std.proofs.Common.{◌≡◌, ℕ, zero, suc, ◌-◌, refl, ap, arith}
use Rattle.dg_lua.specs.Parts.{Taken, and_then}
use Rattle.dg_lua.specs.Values.{one_more, more}

pub more_next : (count : ℕ) (found : Taken) → (count ≡ 0 → ⊥) → more count found ≡ and_then (one_more found) (more (count - 1))
more_next zero found some = absurd (some refl)
more_next (suc count) found some =
    let one : count ≡ suc count - 1 = omega arith in
    ap (λ n. and_then (one_more found) (more n)) one
