-- A value taken away among values in label order.
use Rattle.std.proofs.Common.{◌≡◌, ℕ, suc, ◌<◌, ◌≤◌, Bool, true, false, cond, not, List, [], ◌∷◌, map, filter, IsTrue, nat_lt, nat_le, refl, ap, ◌∙◌, arith, ne_eqb, ltb-true, leb-true, slice_get}
use Rattle.std.specs.List.{remove}
use Rattle.std.proofs.lemmas.Bool.{and_parts}
use Rattle.std.proofs.lemmas.Bool.Decides.{nat_tests}
use Rattle.dg_base.specs.declared.ids.Label.{Label}
use Rattle.dg_base.specs.declared.datum.FieldOf.{FieldOf}
use Rattle.dg_base.specs.Same.{same_label}
use Rattle.dg_base.specs.Order.{rises_from, rises}
use Rattle.dg_laws.proofs.Rising.{rises-rest}
use Rattle.dg_fields.specs.Places.{place_of, has_label}

abbrev pub labels_of : List FieldOf → List ℕ
labels_of fs = map (λ f. f.label.0) fs

abbrev pub is_other : Label → FieldOf → Bool
is_other l f = not (same_label f.label l)

module _ (l : Label) where
  kept_after : (a : ℕ) (fs : List FieldOf) → l.0 ≤ a → IsTrue (rises_from a (labels_of fs)) → filter (is_other l) fs ≡ fs
  kept_after a [] le r = refl
  kept_after a (f ∷ fs) le r =
      let both = and_parts (nat_lt a f.label.0) (rises_from f.label.0 (labels_of fs)) r in
      let below : a < f.label.0 = ltb-true a f.label.0 both.0 in
      let less : l.0 < f.label.0 = omega (arith, le, below) in
      let upto : l.0 ≤ f.label.0 = omega (arith, less) in
      let differ : same_label f.label l ≡ false = ne_eqb f.label.0 l.0 (λ e. absurd (omega (arith, less, e))) in
      ap (λ b. cond (not b) (f ∷ filter (is_other l) fs) (filter (is_other l) fs)) differ ∙ ap (λ zs. f ∷ zs) (kept_after f.label.0 fs upto both.1)

  -- the value at the place, if it is the label's, is the one that goes
  abbrev taken : List FieldOf → List FieldOf
  taken fs = cond (has_label (slice_get fs (place_of fs l)) l) (remove fs (place_of fs l)) fs

  in_front : (b : Bool) (f : FieldOf) (fs gs : List FieldOf) → f ∷ cond b fs gs ≡ cond b (f ∷ fs) (f ∷ gs)
  in_front true f fs gs = refl
  in_front false f fs gs = refl

  pub cleared_at : (fs : List FieldOf) → IsTrue (rises (labels_of fs)) → filter (is_other l) fs ≡ taken fs
  cleared_at [] r = refl
  cleared_at (f ∷ fs) r = by_place (nat_le l.0 f.label.0) refl (cleared_at fs (rises-rest f.label.0 (labels_of fs) r))
    where
      by_label : (b : Bool) → same_label f.label l ≡ b → l.0 ≤ f.label.0 → cond (not b) (f ∷ filter (is_other l) fs) (filter (is_other l) fs) ≡ cond b fs (f ∷ fs)
      by_label true is le = kept_after f.label.0 fs le r
      by_label false is le = ap (λ zs. f ∷ zs) (kept_after f.label.0 fs le r)

      by_place : (b : Bool) → nat_le l.0 f.label.0 ≡ b → filter (is_other l) fs ≡ taken fs → filter (is_other l) (f ∷ fs) ≡ cond (has_label (slice_get (f ∷ fs) (cond b 0 (suc (place_of fs l)))) l) (remove (f ∷ fs) (cond b 0 (suc (place_of fs l)))) (f ∷ fs)
      by_place true is rest = by_label (same_label f.label l) refl (leb-true l.0 f.label.0 is)
      by_place false is rest =
          let differ : same_label f.label l ≡ false = ne_eqb f.label.0 l.0 (λ e. absurd (grind (arith, nat_tests))) in
          ap (λ b. cond (not b) (f ∷ filter (is_other l) fs) (filter (is_other l) fs)) differ
          ∙ ap (λ zs. f ∷ zs) rest
          ∙ in_front (has_label (slice_get fs (place_of fs l)) l) f (remove fs (place_of fs l)) fs
