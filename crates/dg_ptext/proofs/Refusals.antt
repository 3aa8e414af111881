-- What a call answers, against readings that follow one another.
use Rattle.std.proofs.Common.{◌≡◌, sym, ap, subst, Result, Ok, Err}
use Rattle.std.specs.Prelude.{IsErrAnd}
use Rattle.dg_base.specs.declared.refusal.Refusal.{Refusal}
use Rattle.dg_base.specs.declared.refusal.Refusal.TheVariants as refusal
use Rattle.dg_base.specs.Refusal.{Gives, and_then}

-- the refusal of what comes first is that of both
pub refused_on : {A B C : Type 0} (e : Refusal C) (read : Result A C) (next : A → Result B C)
    → Gives {X = A} (λ x. x) (Err e) read → Gives {X = B} (λ x. x) (Err e) (and_then read next)
refused_on (refusal.Because code) read next h = ap (λ r. and_then r next) h
refused_on refusal.NoMemory read next h = tt

pub gives_error : {A C : Type 0} (r : Result A (Refusal C)) (e : Refusal C) (read : Result A C)
    → IsErrAnd r (λ f. f ≡ e) → Gives {X = A} (λ x. x) (Err e) read → Gives (λ x. x) r read
gives_error (Ok x) e read is h = absurd is
gives_error {A} {C} (Err f) e read is h =
    let P : Refusal C → Type 0 = λ g. Gives {X = A} (λ x. x) (Err g) read in
    subst P (sym is) h

-- what gives a reading gives what is equal to it
pub gives_same : {A C : Type 0} (r : Result A (Refusal C)) (read other : Result A C) → read ≡ other → Gives (λ x. x) r read → Gives (λ x. x) r other
gives_same {A} {C} r read other e h =
    let P : Result A C → Type 0 = λ x. Gives (λ y. y) r x in
    subst P e h
