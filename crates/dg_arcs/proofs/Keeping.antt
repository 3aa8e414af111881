-- Arcs stay well kept: where there are none, with one more, and without one.
use Rattle.std.proofs.Common.{◌≡◌, ℕ, ◌+◌, ◌<◌, Bool, true, false, not, cond, ◌||◌, List, [], ◌∷◌, ◌++◌, Option, Some, None, filter, is_some, nat_cmp, refl, sym, ap, ◌∙◌, subst, arith, true≢false}
use Rattle.std.proofs.lemmas.Bool.Decides.{nat_tests}
use Rattle.std.proofs.lemmas.Map.Lookups.{exact_unsigned}
use Rattle.std.specs.Cmp.{nat_cmp_total}
use Rattle.std.specs.List.{AllByRecursion, list_any}
use Rattle.std.specs.List.Sorted.{IsStrictlySortedBy}
use Rattle.std.specs.Map.{keys_of, values_of, lookup, remove_entry}
use Rattle.std.specs.BTreeMap.{is_at, insert_entry}
use Rattle.std.specs.declared.cmp.Ordering.TheVariants.{Greater}
use Rattle.dg_base.specs.declared.ids.Endpoint.{Endpoint}
use Rattle.dg_base.specs.declared.ids.ArcRec.{ArcRec}
use Rattle.dg_base.specs.Same.{same_arc}
use Rattle.dg_base.specs.Changes.{is_arc, with_arc, without_arc}
use Rattle.dg_pmap.proofs.Indexes.{index-insert, index-remove}
use Rattle.dg_pmap.proofs.Sorted.{sorted-insert_entry, sorted-remove_entry}
use Rattle.dg_arcs.specs.ArcLists.{arcs_alone}
use Rattle.dg_arcs.specs.Kept.{Target, target_cmp, is_target, Source, source_cmp, is_source, AreKept}
use Rattle.dg_arcs.proofs.Orders.{targets_order, target-at, sources_order, source-at, arc_cmp, arcs_order, arcs_tell}
use Rattle.dg_arcs.proofs.Inverses.{inverse-insert, inverse-remove, among-inverse, values-remove}

-- ---- numbers below one

below_more : (n : ℕ) (ks : List ℕ) → AllByRecursion (λ k. k < n) ks → AllByRecursion (λ k. k < n + 1) ks
below_more n [] a = tt
below_more n (k ∷ ks) a = let lt = a.0 in (omega (arith, lt), below_more n ks a.1)

below_greater : (n k : ℕ) → k < n → nat_cmp n k ≡ Greater
below_greater n k lt = grind (arith, nat_tests, lt)

module _ {X : Type 0} where
  -- the greatest key comes last
  pub insert_last : (n : ℕ) (x : X) (es : List (ℕ × X)) → AllByRecursion (λ k. k < n) (keys_of es) → insert_entry nat_cmp es n x ≡ es ++ (n, x) ∷ []
  insert_last n x [] a = refl
  insert_last n x (e ∷ es) a = let greater = below_greater n e.0 a.0 in rw greater (ap (λ l. e ∷ l) (insert_last n x es a.1))

  pub values_last : (n : ℕ) (x : X) (es : List (ℕ × X)) → values_of (es ++ (n, x) ∷ []) ≡ values_of es ++ x ∷ []
  values_last n x [] = refl
  values_last n x (e ∷ es) = ap (λ l. e.1 ∷ l) (values_last n x es)

  below_last : (n : ℕ) (x : X) (es : List (ℕ × X)) → AllByRecursion (λ k. k < n + 1) (keys_of es) → AllByRecursion (λ k. k < n + 1) (keys_of (es ++ (n, x) ∷ []))
  below_last n x [] a = (omega arith, tt)
  below_last n x (e ∷ es) a = (a.0, below_last n x es a.1)

  none_at : (n : ℕ) (es : List (ℕ × X)) → AllByRecursion (λ k. k < n) (keys_of es) → lookup (is_at (nat_cmp n)) es ≡ None
  none_at n [] a = refl
  none_at n (e ∷ es) a = let greater = below_greater n e.0 a.0 in rw greater (none_at n es a.1)

  below_remove : (n : ℕ) (test : ℕ → Bool) (es : List (ℕ × X)) → AllByRecursion (λ k. k < n) (keys_of es) → AllByRecursion (λ k. k < n) (keys_of (remove_entry test es))
  below_remove n test [] a = tt
  below_remove n test (e ∷ es) a = by_test (test e.0) (below_remove n test es a.1)
    where
      by_test : (b : Bool) → AllByRecursion (λ k. k < n) (keys_of (remove_entry test es)) → AllByRecursion (λ k. k < n) (keys_of (cond b es (e ∷ remove_entry test es)))
      by_test true rest = a.1
      by_test false rest = (a.0, rest)

-- ---- the arcs

pub kept-none : AreKept arc_cmp 0 [] [] [] []
unfolding IsStrictlySortedBy
kept-none = record {
  below = tt;
  list_rises = tt;
  targets_rise = tt;
  sources_rise = tt;
  places_rise = tt;
  by_target = λ j. refl;
  by_source = λ j. refl;
  by_arc = record { forth = λ k j h. let none : ⊥ = cc in absurd none; back = λ k j h. let none : ⊥ = cc in absurd none };
}

absent : {X : Type 0} (found : Option X) → is_some found ≡ false → found ≡ None
absent None h = refl
absent (Some x) h = absurd (true≢false h)

module _ {next : ℕ} {list : List (ℕ × ArcRec)} {targets : List (Target × Endpoint)} {sources : List (Source × ArcRec)} {places : List (ArcRec × ℕ)} (s : AreKept arc_cmp next list targets sources places) where
  -- whether an arc is there
  pub kept-has : (a : ArcRec) → is_some (lookup (is_at (arc_cmp a)) places) ≡ is_arc (arcs_alone (values_of list)) a
  kept-has a = among-inverse nat_cmp_total exact_unsigned arcs_tell list places s.by_arc s.list_rises a

  module _ (a : ArcRec) where
    pub kept-append : is_arc (arcs_alone (values_of list)) a ≡ false →
        AreKept arc_cmp (next + 1) (insert_entry nat_cmp list next a) (insert_entry target_cmp targets ((a.node, a.input), next) a.src) (insert_entry source_cmp sources (a.src.node, next) a) (insert_entry arc_cmp places a next)
    kept-append new = record {
      below = subst (λ (l : List (ℕ × ArcRec)). AllByRecursion (λ k. k < next + 1) (keys_of l)) (sym (insert_last next a list s.below)) (below_last next a list (below_more next (keys_of list) s.below));
      list_rises = sorted-insert_entry nat_cmp_total next a list s.list_rises;
      targets_rise = sorted-insert_entry targets_order.total ((a.node, a.input), next) a.src targets s.targets_rise;
      sources_rise = sorted-insert_entry sources_order.total (a.src.node, next) a sources s.sources_rise;
      places_rise = sorted-insert_entry arcs_order.total a next places s.places_rise;
      by_target = index-insert nat_cmp_total targets_order.total (λ (j : Target). j.1) is_target (λ (x : ArcRec). x.src) list targets s.by_target next a ((a.node, a.input), next) fresh (target-at a next);
      by_source = index-insert nat_cmp_total sources_order.total (λ (j : Source). j.1) is_source (λ (x : ArcRec). x) list sources s.by_source next a (a.src.node, next) fresh (source-at a next);
      by_arc = inverse-insert nat_cmp_total arcs_order.total exact_unsigned arcs_order.exact list places s.by_arc next a fresh (absent _ (kept-has a ∙ new));
    }
      where
        fresh : lookup (is_at (nat_cmp next)) list ≡ None
        fresh = none_at next list s.below

    pub view-append : values_of (insert_entry nat_cmp list next a) ≡ (with_arc (arcs_alone (values_of list)) a).arcs
    view-append = ap values_of (insert_last next a list s.below) ∙ values_last next a list

    pub kept-remove : (k : ℕ) → lookup (is_at (arc_cmp a)) places ≡ Some k →
        AreKept arc_cmp next (remove_entry (is_at (nat_cmp k)) list) (remove_entry (is_at (target_cmp ((a.node, a.input), k))) targets) (remove_entry (is_at (source_cmp (a.src.node, k))) sources) (remove_entry (is_at (arc_cmp a)) places)
    kept-remove k there = record {
      below = below_remove next (is_at (nat_cmp k)) list s.below;
      list_rises = sorted-remove_entry nat_cmp_total (is_at (nat_cmp k)) list s.list_rises;
      targets_rise = sorted-remove_entry targets_order.total (is_at (target_cmp ((a.node, a.input), k))) targets s.targets_rise;
      sources_rise = sorted-remove_entry sources_order.total (is_at (source_cmp (a.src.node, k))) sources s.sources_rise;
      places_rise = sorted-remove_entry arcs_order.total (is_at (arc_cmp a)) places s.places_rise;
      by_target = index-remove nat_cmp_total targets_order.total (λ (j : Target). j.1) is_target (λ (x : ArcRec). x.src) list targets s.by_target k s.list_rises s.targets_rise a ((a.node, a.input), k) here (target-at a k);
      by_source = index-remove nat_cmp_total sources_order.total (λ (j : Source). j.1) is_source (λ (x : ArcRec). x) list sources s.by_source k s.list_rises s.sources_rise a (a.src.node, k) here (source-at a k);
      by_arc = inverse-remove nat_cmp_total arcs_order.total exact_unsigned arcs_order.exact list places s.by_arc k a s.list_rises s.places_rise there;
    }
      where
        here : lookup (is_at (nat_cmp k)) list ≡ Some a
        here = s.by_arc.back k a there

    pub view-remove : (k : ℕ) → lookup (is_at (arc_cmp a)) places ≡ Some k → values_of (remove_entry (is_at (nat_cmp k)) list) ≡ (without_arc (arcs_alone (values_of list)) a).arcs
    view-remove k there = values-remove nat_cmp_total exact_unsigned arcs_tell list places s.by_arc s.list_rises k a there

    is_some-none : {X : Type 0} (found : Option X) → found ≡ None → is_some found ≡ false
    is_some-none found h = ap is_some h

-- nothing is removed where the arc isn't there
pub without-absent : (as_ : List ArcRec) (a : ArcRec) → is_arc (arcs_alone as_) a ≡ false → as_ ≡ (without_arc (arcs_alone as_) a).arcs
without-absent [] a h = refl
without-absent (b ∷ as_) a h = by_test (same_arc a b) h (without-absent as_ a)
  where
    by_test : (t : Bool) → (t || list_any (same_arc a) as_) ≡ false → (list_any (same_arc a) as_ ≡ false → as_ ≡ filter (λ c. not (same_arc a c)) as_) →
        b ∷ as_ ≡ cond (not t) (b ∷ filter (λ c. not (same_arc a c)) as_) (filter (λ c. not (same_arc a c)) as_)
    by_test true h rest = absurd (true≢false h)
    by_test false h rest = ap (λ l. b ∷ l) (rest h)
