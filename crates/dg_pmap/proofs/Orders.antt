-- What follows from one comparison and a total order.
use Rattle.std.proofs.Common.{◌≡◌, Bool, true, false, refl, sym, ap, ◌∙◌, true≢false}
use Rattle.std.specs.Cmp.{IsTotalOrder}
use Rattle.std.specs.Ordering.{is_lt, is_gt, is_eq, ordering_reverse}
use Rattle.std.specs.declared.cmp.Ordering.{Ordering}
use Rattle.std.specs.declared.cmp.Ordering.TheVariants.{Less, Equal, Greater}

-- each answer of a comparison
pub by_ordering : {P : Type 0} (r : Ordering) → (r ≡ Less → P) → (r ≡ Equal → P) → (r ≡ Greater → P) → P
by_ordering Less a b c = a refl
by_ordering Equal a b c = b refl
by_ordering Greater a b c = c refl

module _ {K : Type 0} {cmp : K → K → Ordering} (o : IsTotalOrder cmp) where
  -- what is not below b is above all that is below b
  pub above_lower : (q a b : K) → cmp a b ≡ Less → is_lt (cmp q b) ≡ false → cmp q a ≡ Greater
  above_lower q a b l n = by_ordering (cmp q b)
      (λ h. absurd (true≢false (sym (ap is_lt h) ∙ n)))
      (λ h. o.congr q b a h ∙ o.antisymm b a ∙ ap ordering_reverse l)
      (λ h. o.antisymm q a ∙ ap ordering_reverse (o.trans a b q l (o.antisymm b q ∙ ap ordering_reverse h)))

  -- what is not above a is below all that is above a
  pub below_higher : (q a b : K) → cmp a b ≡ Less → is_gt (cmp q a) ≡ false → cmp q b ≡ Less
  below_higher q a b l n = by_ordering (cmp q a)
      (λ h. o.trans q a b h l)
      (λ h. o.congr q a b h ∙ l)
      (λ h. absurd (true≢false (sym (ap is_gt h) ∙ n)))
