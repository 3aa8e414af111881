-- Numbers that are given exactly where they are in 64 bits, and what is given exactly where several are.
use Rattle.std.proofs.Common.{◌≡◌, Bool, true, false, ◌&&◌, true≢false, refl, sym, ap, ◌∙◌, subst, FitsSigned, ℤ, pos, negsuc, to_z, of_z, ◌^◌}
use Rattle.std.specs.Prelude.{Result, Ok, Err, OkIff, IsErr}
use Rattle.std.specs.Int.{w64}
use Rattle.std.proofs.lemmas.Bool.{ltb-true, lt-ltb}
use Rattle.std.proofs.lemmas.Int.{to_z-of_z}
use Rattle.std.proofs.lemmas.Result.{OkIff-at_ok}
use Rattle.dg_decimal.specs.Value.{fits}
use Rattle.dg_geom.specs.Fit.{IsNarrowed}

-- the test of a number is the fact that the kit states
fits_signed : (n : ℤ) → fits n ≡ true → FitsSigned w64 n
fits_signed (pos n) is = record { sfits = ltb-true n (2 ^ 63) is }
fits_signed (negsuc n) is = record { sfits = ltb-true n (2 ^ 63) is }

fits_test : (n : ℤ) → FitsSigned w64 n → fits n ≡ true
fits_test (pos n) is = lt-ltb n (2 ^ 63) is.sfits
fits_test (negsuc n) is = lt-ltb n (2 ^ 63) is.sfits

-- what is refused doesn't fit
pub refused : {T E : Type 0} (r : Result T E) (P : Type 0) (v : T) → IsErr r → (P → ⊥) → OkIff r P v
refused (Ok x) P v e denied = absurd (true≢false (sym e))
refused (Err y) P v e denied = denied

-- what is given is the number, and fits
pub fits_at : {E : Type 0} (r : Result ℤ E) (n x : ℤ) → IsNarrowed r n → r ≡ Ok x → fits n ≡ true
fits_at r n x is at = (OkIff-at_ok r (fits n ≡ true) n x is at).0

pub kept_at : {E : Type 0} (r : Result ℤ E) (n x : ℤ) → IsNarrowed r n → r ≡ Ok x → to_z w64 (of_z w64 x) ≡ n
kept_at r n x is at =
    let given = OkIff-at_ok r (fits n ≡ true) n x is at in
    ap (λ m. to_z w64 (of_z w64 m)) given.1 ∙ to_z-of_z w64 n (fits_signed n given.0)

-- a number that the kit narrows
pub narrowed_is : {E : Type 0} (r : Result ℤ E) (n : ℤ) → OkIff r (FitsSigned w64 n) n → IsNarrowed r n
narrowed_is (Ok x) n is = (fits_test n is.0, is.1)
narrowed_is (Err e) n is = λ test. is (fits_signed n test)

-- both parts of a test
pub left_of : (a b : Bool) → (a && b) ≡ true → a ≡ true
left_of true b test = refl
left_of false b test = absurd (true≢false (sym test))

pub right_of : (a b : Bool) → (a && b) ≡ true → b ≡ true
right_of true b test = test
right_of false b test = absurd (true≢false (sym test))

-- what is left to test behind a part that holds
pub ahead : {T E : Type 0} (r : Result T E) (a b : Bool) (v : T) → a ≡ true → OkIff r (b ≡ true) v → OkIff r ((a && b) ≡ true) v
ahead r a b v test rest = subst (λ x. OkIff r ((x && b) ≡ true) v) (sym test) rest
