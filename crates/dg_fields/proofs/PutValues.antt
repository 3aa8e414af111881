-- Where the value at a label stands, and what putting one there does to the list.
use Rattle.std.proofs.Common.{◌≡◌, ℕ, suc, ◌≤◌, List, [], ◌∷◌, Bool, true, false, cond, Option, length, set, slice_get, refl, ap, arith, nat_le, nat_lt, insert}
use Rattle.std.proofs.Common.{◌<◌, ◌==◌, inl, inr, ◌∙◌}
use Rattle.std.proofs.lemmas.Bool.Decides.{nat_tests, leb_tells, eqb_tells}
use Rattle.dg_base.specs.declared.ids.Label.{Label}
use Rattle.dg_base.specs.declared.datum.Datum.{Datum}
use Rattle.dg_base.specs.declared.datum.FieldOf.{FieldOf}
use Rattle.dg_base.specs.Graph.{put_value}
use Rattle.dg_fields.specs.Places.{place_of, has_label}

pub place_of_within : (fs : List FieldOf) (l : Label) → place_of fs l ≤ length fs
place_of_within [] l = omega arith
place_of_within (f ∷ fs) l =
    let rest = place_of_within fs l in
    elim (nat_le l.0 f.label.0) as (λ b. cond b 0 (suc (place_of fs l)) ≤ suc (length fs)) [ true ↦ omega arith | false ↦ omega (arith, rest) ]

is_at_most : (a b : ℕ) → a ≤ b → nat_le a b ≡ true
is_at_most a b h = grind (arith, nat_tests)

is_above : (a b : ℕ) → b < a → nat_le a b ≡ false
is_above a b h = grind (arith, nat_tests)

is_below : (a b : ℕ) → a < b → nat_lt a b ≡ true
is_below a b h = grind (arith, nat_tests)

is_not_below : (a b : ℕ) → b ≤ a → nat_lt a b ≡ false
is_not_below a b h = grind (arith, nat_tests)

is_other : (a b : ℕ) → a < b → (a == b) ≡ false
is_other a b h = grind (arith, nat_tests)

cond-cons : (b : Bool) (f : FieldOf) (xs ys : List FieldOf) → f ∷ cond b xs ys ≡ cond b (f ∷ xs) (f ∷ ys)
cond-cons true f xs ys = refl
cond-cons false f xs ys = refl

-- a value is put in the place of one with its label, or in between
pub put_value-place : (fs : List FieldOf) (l : Label) (v : Datum) →
    put_value fs l v
    ≡ cond (has_label (slice_get fs (place_of fs l)) l)
    (set fs (place_of fs l) (record { label = l; value = v }))
    (insert fs (place_of fs l) (record { label = l; value = v }))
put_value-place [] l v = refl
put_value-place (f ∷ fs) l v =
    elim (leb_tells l.0 f.label.0) [
      | inl low ↦ elim (eqb_tells f.label.0 l.0) [
        | inl same ↦ rw (low.0, same.0) refl
        | inr other ↦
            let below : nat_lt l.0 f.label.0 ≡ true = is_below l.0 f.label.0 (omega (arith, low.1, other.1)) in
            rw (low.0, other.0, below) refl
      ]
      | inr high ↦
          let other : (f.label.0 == l.0) ≡ false = is_other f.label.0 l.0 high.1 in
          let past : nat_lt l.0 f.label.0 ≡ false = is_not_below l.0 f.label.0 (omega (arith, high.1)) in
          rw (high.0, other, past) (ap (λ (z : List FieldOf). f ∷ z) (put_value-place fs l v) ∙ cond-cons _ f _ _)
    ]

pub put_value_there : (fs : List FieldOf) (l : Label) (v : Datum) (p : ℕ) (o : Option FieldOf) →
    p ≡ place_of fs l → o ≡ slice_get fs p → has_label o l ≡ true → put_value fs l v ≡ set fs p (record { label = l; value = v })
put_value_there fs l v p o place got there =
    let t : has_label (slice_get fs (place_of fs l)) l ≡ true = rw (← place, ← got) there in
    put_value-place fs l v ∙ rw (t, ← place) refl

pub put_value_new : (fs : List FieldOf) (l : Label) (v : Datum) (p : ℕ) (o : Option FieldOf) →
    p ≡ place_of fs l → o ≡ slice_get fs p → has_label o l ≡ false → put_value fs l v ≡ insert fs p (record { label = l; value = v })
put_value_new fs l v p o place got there =
    let t : has_label (slice_get fs (place_of fs l)) l ≡ false = rw (← place, ← got) there in
    put_value-place fs l v ∙ rw (t, ← place) refl
