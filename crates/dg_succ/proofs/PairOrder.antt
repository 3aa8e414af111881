-- Pairs of endpoints in their order, and how they compare.
use Rattle.std.proofs.Common.{◌≡◌, ◌⊎◌, Bool, true, ◌&&◌, ◌||◌, is_lt, is_eq, refl, sym, ap, ◌∙◌, inl, inr, true≢false}
use Rattle.std.proofs.lemmas.Bool.{and_parts, and_from}
use Rattle.std.specs.Cmp.{then_total, on_total, and_equiv, on_equiv}
use Rattle.std.specs.Ordering.{ordering_then, ordering_reverse}
use Rattle.std.specs.declared.cmp.Ordering.{Ordering}
use Rattle.std.specs.declared.cmp.Ordering.TheVariants.{Less, Equal, Greater}
use Rattle.dg_base.specs.declared.ids.Endpoint.{Endpoint}
use Rattle.dg_base.specs.Same.{same_end}
use Rattle.dg_laws.proofs.Among.{Tells}
use Rattle.dg_laws.proofs.Orders.{Ranks, Compares}
use Rattle.dg_laws.proofs.Ends.{end_cmp, ends_tell, ends_compare}
use Rattle.dg_succ.specs.Pairs.{Pair, same_pair, is_pair_before}

abbrev pub pair_cmp : Pair → Pair → Ordering
pair_cmp p q = ordering_then (end_cmp p.0 q.0) (end_cmp p.1 q.1)

pub pairs_tell : Tells same_pair
pairs_tell = record {
  is = λ p q h. let both = and_parts (same_end p.0 q.0) (same_end p.1 q.1) h in
      ap (λ (e : Endpoint). (e, p.1)) (ends_tell.is p.0 q.0 both.0) ∙ ap (λ (e : Endpoint). (q.0, e)) (ends_tell.is p.1 q.1 both.1);
  itself = λ p. and_from _ _ (ends_tell.itself p.0) (ends_tell.itself p.1);
}

lt_then : (r s : Ordering) → is_lt (ordering_then r s) ≡ (is_lt r || (is_eq r && is_lt s))
lt_then Less s = refl
lt_then Equal s = refl
lt_then Greater s = refl

eq_then : (r s : Ordering) → is_eq (ordering_then r s) ≡ (is_eq r && is_eq s)
eq_then Less s = refl
eq_then Equal s = refl
eq_then Greater s = refl

both_before : (a b c d e f : Bool) → a ≡ b → c ≡ d → e ≡ f → (a || (c && e)) ≡ (b || (d && f))
both_before a b c d e f h i j = cc

both_same : (a b c d : Bool) → a ≡ b → c ≡ d → (a && c) ≡ (b && d)
both_same a b c d h i = cc

pub pairs_compare : Compares pair_cmp same_pair is_pair_before
pairs_compare = record {
  total = then_total (on_total (λ (p : Pair). p.0) ends_compare.total) (on_total (λ (p : Pair). p.1) ends_compare.total);
  equivalence = and_equiv (on_equiv (λ (p : Pair). p.0) ends_compare.equivalence) (on_equiv (λ (p : Pair). p.1) ends_compare.equivalence);
  tells_before = λ p q.
      lt_then (end_cmp p.0 q.0) (end_cmp p.1 q.1)
      ∙ both_before _ _ _ _ _ _ (ends_compare.tells_before p.0 q.0) (sym (ends_compare.tells_same p.0 q.0)) (ends_compare.tells_before p.1 q.1);
  tells_same = λ p q.
      both_same _ _ _ _ (ends_compare.tells_same p.0 q.0) (ends_compare.tells_same p.1 q.1) ∙ sym (eq_then (end_cmp p.0 q.0) (end_cmp p.1 q.1));
}

-- what compares, ranks
module _ {X : Type 0} {cmp : X → X → Ordering} {same before : X → X → Bool} (c : Compares cmp same before) (t : Tells same) where
  by_answer : (a b : X) (r : Ordering) → cmp a b ≡ r → ((same a b ≡ true) ⊎ (before a b ≡ true)) ⊎ (before b a ≡ true)
  by_answer a b Less is = inl (inr (sym (c.tells_before a b) ∙ ap is_lt is))
  by_answer a b Equal is = inl (inl (c.tells_same a b ∙ ap is_eq is))
  by_answer a b Greater is = inr (sym (c.tells_before b a) ∙ ap is_lt (c.total.antisymm b a ∙ ap ordering_reverse is))

  less_from_before : (a b : X) → before a b ≡ true → (r : Ordering) → cmp a b ≡ r → cmp a b ≡ Less
  less_from_before a b h Less is = is
  less_from_before a b h Equal is = absurd (true≢false (sym h ∙ sym (c.tells_before a b) ∙ ap is_lt is))
  less_from_before a b h Greater is = absurd (true≢false (sym h ∙ sym (c.tells_before a b) ∙ ap is_lt is))

  pub ranks-from_compares : Ranks same before
  ranks-from_compares = record {
    tells = t;
    compared = λ a b. by_answer a b (cmp a b) refl;
    apart = λ a b h. c.tells_same a b ∙ ap is_eq (less_from_before a b h (cmp a b) refl);
    trans = λ a b d h k.
        sym (c.tells_before a d)
        ∙ ap is_lt (c.total.trans a b d (less_from_before a b h (cmp a b) refl) (less_from_before b d k (cmp b d) refl));
  }

pub pairs_rank : Ranks same_pair is_pair_before
pairs_rank = ranks-from_compares pairs_compare pairs_tell
