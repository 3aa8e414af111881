-- Keys of two parts, compared by the first and then by the second: how they compare, and the run of those with one first part.
use Rattle.std.proofs.Common.{◌≡◌, Bool, true, false, ◌&&◌, nat_cmp, refl, sym, ap, ◌∙◌}
use Rattle.std.proofs.lemmas.Map.Lookups.{exact_unsigned}
use Rattle.std.specs.Cmp.{IsTotalOrder, then_total, on_total, nat_cmp_total}
use Rattle.std.specs.Ordering.{is_eq, is_gt, ordering_then}
use Rattle.std.specs.declared.cmp.Ordering.{Ordering}
use Rattle.std.specs.declared.cmp.Ordering.TheVariants.{Less, Equal, Greater}
use Rattle.dg_pmap.proofs.Lookups.{equal-is, equal-itself, is_eq-swap}
use Rattle.dg_pmap.proofs.Runs.{IsRun, run-of_part}
use Rattle.dg_pmap.proofs.Indexes.{IsRunAt}

-- a total order in which equal keys are one
pub record IsExactOrder {K : Type 0} (cmp : K → K → Ordering) : Type 0 where
  pub total : IsTotalOrder cmp
  pub exact : (a b : K) → cmp a b ≡ Equal → a ≡ b

pub numbers_order : IsExactOrder nat_cmp
numbers_order = record { total = nat_cmp_total; exact = exact_unsigned }

-- by what tells the keys apart
pub order-by : {K B : Type 0} {cmp : B → B → Ordering} (f : K → B) → ((a b : K) → f a ≡ f b → a ≡ b) → IsExactOrder cmp → IsExactOrder (λ (a b : K). cmp (f a) (f b))
order-by f one r = record { total = on_total f r.total; exact = λ a b h. one a b (r.exact (f a) (f b) h) }

abbrev pub parted_cmp : {P K : Type 0} → (P → P → Ordering) → (K → K → Ordering) → P × K → P × K → Ordering
parted_cmp part_cmp cmp a b = ordering_then (part_cmp a.0 b.0) (cmp a.1 b.1)

then_equal : (r s : Ordering) → ordering_then r s ≡ Equal → (r ≡ Equal) × (s ≡ Equal)
then_equal Less s h = let none : ⊥ = cc in absurd none
then_equal Equal s h = (refl, h)
then_equal Greater s h = let none : ⊥ = cc in absurd none

pub eq_then : (r s : Ordering) → is_eq (ordering_then r s) ≡ (is_eq r && is_eq s)
eq_then Less s = refl
eq_then Equal s = refl
eq_then Greater s = refl

and_turned : (a b : Bool) → (a && b) ≡ (b && a)
and_turned true true = refl
and_turned true false = refl
and_turned false true = refl
and_turned false false = refl

module _ {P K : Type 0} {part_cmp : P → P → Ordering} {cmp : K → K → Ordering} (o : IsExactOrder part_cmp) (n : IsExactOrder cmp) where
  pub parted_order : IsExactOrder (parted_cmp part_cmp cmp)
  parted_order = record {
    total = then_total (on_total (λ (a : P × K). a.0) o.total) (on_total (λ (a : P × K). a.1) n.total);
    exact = λ a b h.
        let both = then_equal (part_cmp a.0 b.0) (cmp a.1 b.1) h in
        ap (λ (p : P). (p, a.1)) (o.exact a.0 b.0 both.0) ∙ ap (λ (k : K). (b.0, k)) (n.exact a.1 b.1 both.1);
  }

  -- the one key of a first part and a second
  pub parted-at : (p : P) (k : K) (j : P × K) (takes : Bool) → is_eq (part_cmp j.0 p) ≡ takes → is_eq (parted_cmp part_cmp cmp j (p, k)) ≡ (is_eq (cmp j.1 k) && takes)
  parted-at p k j takes h = eq_then (part_cmp j.0 p) (cmp j.1 k) ∙ and_turned (is_eq (part_cmp j.0 p)) (is_eq (cmp j.1 k)) ∙ ap (λ b. is_eq (cmp j.1 k) && b) h

  module _ (p : P) (among : P × K → Bool) (is : (j : P × K) → is_eq (part_cmp j.0 p) ≡ among j) where
    pub parted-run : (least : K) → ((k : K) → is_gt (cmp least k) ≡ false) → IsRun (parted_cmp part_cmp cmp) (p, least) among
    parted-run least low = run-of_part o.total (λ (a : P × K). a.0) (λ (a b : P × K). cmp a.1 b.1) (λ a b. refl) (p, least) (λ k. low k.1) among (λ k. is_eq-swap o.total p k.0 ∙ is k)

    pub parted-run_at : {X Y : Type 0} (takes : P × K → X → Bool) (gives : X → Y) (passes : X → Bool) → ((k : K) (x : X) → takes (p, k) x ≡ passes x) →
        IsRunAt n.total parted_order.total parted_order.exact (λ (j : P × K). j.1) takes gives (λ (k : K). (p, k)) among passes
    parted-run_at takes gives passes taken = record {
      rises = λ k l. ap (λ r. ordering_then r (cmp k l)) (equal-is _ (equal-itself o.total p));
      named = λ k. refl;
      holds = λ k. sym (is (p, k)) ∙ equal-itself o.total p;
      only = λ j h. ap (λ (q : P). (q, j.1)) (o.exact j.0 p (equal-is _ (is j ∙ h)));
      taken = taken;
    }
