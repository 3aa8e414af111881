-- An index after a change of its map, and what a run of it gives.
use Rattle.std.proofs.Common.{◌≡◌, Bool, true, false, cond, ◌&&◌, List, [], ◌∷◌, Option, Some, None, option_map, map, filter, refl, sym, ap, ◌∙◌, subst, true≢false}
use Rattle.std.proofs.lemmas.Map.Entries.{option_filter, lookup-filter-keys, lookup-filter-values}
use Rattle.std.proofs.lemmas.Map.Keys.{IsDistinct-from_sorted}
use Rattle.std.specs.Cmp.{IsTotalOrder, eq_by_cmp_equiv}
use Rattle.std.specs.List.Sorted.{IsStrictlySortedBy}
use Rattle.std.specs.Map.{keys_of, values_of, lookup, remove_entry}
use Rattle.std.specs.BTreeMap.{is_at, insert_entry}
use Rattle.std.specs.Ordering.{is_eq}
use Rattle.std.specs.declared.cmp.Ordering.{Ordering}
use Rattle.std.specs.declared.cmp.Ordering.TheVariants.{Equal}
use Rattle.dg_pmap.specs.Indexes.{chosen, IsIndex}
use Rattle.dg_pmap.proofs.Lookups.{equal-is, lookup-insert_entry, lookup-without, lookup-equal, same_lookups, sorted-filter, sorted-map}

module _ {K X J Y : Type 0} {cmp : K → K → Ordering} {index_cmp : J → J → Ordering} (o : IsTotalOrder cmp) (n : IsTotalOrder index_cmp) (names : J → K) (takes : J → X → Bool) (gives : X → Y) (es : List (K × X)) (index : List (J × Y)) (i : IsIndex cmp index_cmp names takes gives es index) (k : K) where
  -- the value that is put is in the index as the one before was
  pub index-insert_same : (x : X) (before : Option X) → lookup (is_at (cmp k)) es ≡ before → ((j : J) → is_eq (cmp (names j) k) ≡ true → chosen takes gives j (Some x) ≡ chosen takes gives j before) →
      IsIndex cmp index_cmp names takes gives (insert_entry cmp es k x) index
  index-insert_same x before was same j = i j ∙ by_key (is_eq (cmp (names j) k)) refl ∙ ap (chosen takes gives j) (sym (lookup-insert_entry o k (names j) x es))
    where
      by_key : (b : Bool) → is_eq (cmp (names j) k) ≡ b → chosen takes gives j (lookup (is_at (cmp (names j))) es) ≡ chosen takes gives j (cond b (Some x) (lookup (is_at (cmp (names j))) es))
      by_key true is = ap (chosen takes gives j) (lookup-equal o (names j) k is es ∙ was) ∙ sym (same j is)
      by_key false is = refl

  -- a value is put at a new key, and into the index at the one key that takes it
  pub index-insert : (x : X) (j0 : J) → lookup (is_at (cmp k)) es ≡ None → ((j : J) → is_eq (index_cmp j j0) ≡ (is_eq (cmp (names j) k) && takes j x)) →
      IsIndex cmp index_cmp names takes gives (insert_entry cmp es k x) (insert_entry index_cmp index j0 (gives x))
  index-insert x j0 fresh at j =
      lookup-insert_entry n j0 j (gives x) index
      ∙ ap (λ b. cond b (Some (gives x)) (lookup (is_at (index_cmp j)) index)) (at j)
      ∙ by_key (is_eq (cmp (names j) k)) refl
      ∙ ap (chosen takes gives j) (sym (lookup-insert_entry o k (names j) x es))
    where
      by_key : (b : Bool) → is_eq (cmp (names j) k) ≡ b → cond (b && takes j x) (Some (gives x)) (lookup (is_at (index_cmp j)) index) ≡ chosen takes gives j (cond b (Some x) (lookup (is_at (cmp (names j))) es))
      by_key true is = ap (λ r. cond (takes j x) (Some (gives x)) r) (i j ∙ ap (chosen takes gives j) (lookup-equal o (names j) k is es ∙ fresh))
      by_key false is = i j

  -- what is taken out was not in the index
  pub index-remove_same : IsStrictlySortedBy cmp (keys_of es) → (before : Option X) → lookup (is_at (cmp k)) es ≡ before → ((j : J) → is_eq (cmp (names j) k) ≡ true → chosen takes gives j before ≡ None) →
      IsIndex cmp index_cmp names takes gives (remove_entry (is_at (cmp k)) es) index
  index-remove_same s before was none j = i j ∙ by_key (is_eq (cmp (names j) k)) refl ∙ ap (chosen takes gives j) (sym (lookup-without o k (names j) es s))
    where
      by_key : (b : Bool) → is_eq (cmp (names j) k) ≡ b → chosen takes gives j (lookup (is_at (cmp (names j))) es) ≡ chosen takes gives j (cond b None (lookup (is_at (cmp (names j))) es))
      by_key true is = ap (chosen takes gives j) (lookup-equal o (names j) k is es ∙ was) ∙ none j is
      by_key false is = refl

  -- what is taken out is taken out of the index at the one key that took it
  pub index-remove : IsStrictlySortedBy cmp (keys_of es) → IsStrictlySortedBy index_cmp (keys_of index) → (x : X) (j0 : J) → lookup (is_at (cmp k)) es ≡ Some x →
      ((j : J) → is_eq (index_cmp j j0) ≡ (is_eq (cmp (names j) k) && takes j x)) →
      IsIndex cmp index_cmp names takes gives (remove_entry (is_at (cmp k)) es) (remove_entry (is_at (index_cmp j0)) index)
  index-remove s t x j0 was at j =
      lookup-without n j0 j index t
      ∙ ap (λ b. cond b None (lookup (is_at (index_cmp j)) index)) (at j)
      ∙ by_key (is_eq (cmp (names j) k)) refl
      ∙ ap (chosen takes gives j) (sym (lookup-without o k (names j) es s))
    where
      by_value : (b : Bool) → takes j x ≡ b → lookup (is_at (index_cmp j)) index ≡ cond b (Some (gives x)) None → cond b None (lookup (is_at (index_cmp j)) index) ≡ None
      by_value true is h = refl
      by_value false is h = h

      by_key : (b : Bool) → is_eq (cmp (names j) k) ≡ b → cond (b && takes j x) None (lookup (is_at (index_cmp j)) index) ≡ chosen takes gives j (cond b None (lookup (is_at (cmp (names j))) es))
      by_key true is = by_value (takes j x) refl (i j ∙ ap (chosen takes gives j) (lookup-equal o (names j) k is es ∙ was))
      by_key false is = i j

-- ---- a run of an index: under the keys `mk k` stands what the map has of the values that pass a test
module _ {K X J Y : Type 0} {cmp : K → K → Ordering} {index_cmp : J → J → Ordering} (o : IsTotalOrder cmp) (n : IsTotalOrder index_cmp) (exact : (a b : J) → index_cmp a b ≡ Equal → a ≡ b) (names : J → K) (takes : J → X → Bool) (gives : X → Y) (mk : K → J) (among : J → Bool) (passes : X → Bool) where
  -- the keys of the run, in the order of the keys that they name
  pub record IsRunAt : Type 0 where
    pub rises : (k l : K) → index_cmp (mk k) (mk l) ≡ cmp k l
    pub named : (k : K) → names (mk k) ≡ k
    pub holds : (k : K) → among (mk k) ≡ true
    pub only : (j : J) → among j ≡ true → j ≡ mk (names j)
    pub taken : (k : K) (x : X) → takes (mk k) x ≡ passes x

  module _ (r : IsRunAt) where
    lookup_mk : (k : K) (fs : List (K × X)) → lookup (is_at (index_cmp (mk k))) (map (λ (e : K × X). (mk e.0, gives e.1)) fs) ≡ option_map gives (lookup (is_at (cmp k)) fs)
    lookup_mk k [] = refl
    lookup_mk k (e ∷ fs) = by_test (is_eq (cmp k e.0)) (ap is_eq (r.rises k e.0)) (lookup_mk k fs)
      where
        by_test : (b : Bool) → is_eq (index_cmp (mk k) (mk e.0)) ≡ b → lookup (is_at (index_cmp (mk k))) (map (λ (f : K × X). (mk f.0, gives f.1)) fs) ≡ option_map gives (lookup (is_at (cmp k)) fs) →
            cond (is_eq (index_cmp (mk k) (mk e.0))) (Some (gives e.1)) (lookup (is_at (index_cmp (mk k))) (map (λ (f : K × X). (mk f.0, gives f.1)) fs)) ≡ option_map gives (cond b (Some e.1) (lookup (is_at (cmp k)) fs))
        by_test true is rest = rw is refl
        by_test false is rest = rw is rest

    lookup_other : (j : J) → among j ≡ false → (fs : List (K × X)) → lookup (is_at (index_cmp j)) (map (λ (e : K × X). (mk e.0, gives e.1)) fs) ≡ None
    lookup_other j out [] = refl
    lookup_other j out (e ∷ fs) = by_test (is_eq (index_cmp j (mk e.0))) refl (lookup_other j out fs)
      where
        by_test : (b : Bool) → is_eq (index_cmp j (mk e.0)) ≡ b → lookup (is_at (index_cmp j)) (map (λ (f : K × X). (mk f.0, gives f.1)) fs) ≡ None →
            cond b (Some (gives e.1)) (lookup (is_at (index_cmp j)) (map (λ (f : K × X). (mk f.0, gives f.1)) fs)) ≡ None
        by_test true is rest = absurd (true≢false (sym (ap among (exact j (mk e.0) (equal-is _ is)) ∙ r.holds e.0) ∙ out))
        by_test false is rest = rest

    filtered : (k : K) (before : Option X) → chosen takes gives (mk k) before ≡ option_map gives (option_filter passes before)
    filtered k None = refl
    filtered k (Some x) = ap (λ b. cond b (Some (gives x)) None) (r.taken k x) ∙ by_test (passes x)
      where
        by_test : (b : Bool) → cond b (Some (gives x)) None ≡ option_map gives (cond b (Some x) None)
        by_test true = refl
        by_test false = refl

    pub index-run : (es : List (K × X)) (index : List (J × Y)) → IsStrictlySortedBy cmp (keys_of es) → IsStrictlySortedBy index_cmp (keys_of index) → IsIndex cmp index_cmp names takes gives es index →
        filter (λ (e : J × Y). among e.0) index ≡ map (λ (e : K × X). (mk e.0, gives e.1)) (filter (λ (e : K × X). passes e.1) es)
    index-run es index s t i =
        same_lookups n exact _ _ (sorted-filter index_cmp (λ (e : J × Y). among e.0) index t) (sorted-map cmp index_cmp mk gives r.rises _ (sorted-filter cmp (λ (e : K × X). passes e.1) es s))
        (λ j. by_test j (among j) refl)
      where
        inside : (j : J) → among j ≡ true → (l : J) → is_eq (index_cmp j l) ≡ true → among l ≡ true
        inside j is l h = ap among (sym (exact j l (equal-is _ h))) ∙ is

        outside : (j : J) → among j ≡ false → (l : J) → is_eq (index_cmp j l) ≡ true → among l ≡ false
        outside j is l h = ap among (sym (exact j l (equal-is _ h))) ∙ is

        there : (k : K) → lookup (is_at (index_cmp (mk k))) index ≡ lookup (is_at (index_cmp (mk k))) (map (λ (e : K × X). (mk e.0, gives e.1)) (filter (λ (e : K × X). passes e.1) es))
        there k =
            i (mk k)
            ∙ ap (λ l. chosen takes gives (mk k) (lookup (is_at (cmp l)) es)) (r.named k)
            ∙ filtered k (lookup (is_at (cmp k)) es)
            ∙ ap (option_map gives) (sym (lookup-filter-values (eq_by_cmp_equiv o) passes k es (IsDistinct-from_sorted cmp (keys_of es) s)))
            ∙ sym (lookup_mk k (filter (λ (e : K × X). passes e.1) es))

        by_test : (j : J) (b : Bool) → among j ≡ b → lookup (is_at (index_cmp j)) (filter (λ (e : J × Y). among e.0) index) ≡ lookup (is_at (index_cmp j)) (map (λ (e : K × X). (mk e.0, gives e.1)) (filter (λ (e : K × X). passes e.1) es))
        by_test j true is =
            lookup-filter-keys (is_at (index_cmp j)) among true (inside j is) index
            ∙ subst (λ (l : J). lookup (is_at (index_cmp l)) index ≡ lookup (is_at (index_cmp l)) (map (λ (e : K × X). (mk e.0, gives e.1)) (filter (λ (e : K × X). passes e.1) es))) (sym (r.only j is)) (there (names j))
        by_test j false is =
            lookup-filter-keys (is_at (index_cmp j)) among false (outside j is) index
            ∙ sym (lookup_other j is (filter (λ (e : K × X). passes e.1) es))

    values_in : (es : List (K × X)) → map (λ (e : J × Y). e.1) (map (λ (e : K × X). (mk e.0, gives e.1)) (filter (λ (e : K × X). passes e.1) es)) ≡ map gives (filter passes (values_of es))
    values_in [] = refl
    values_in (e ∷ es) = by_test (passes e.1) (values_in es)
      where
        by_test : (b : Bool) → map (λ (f : J × Y). f.1) (map (λ (f : K × X). (mk f.0, gives f.1)) (filter (λ (f : K × X). passes f.1) es)) ≡ map gives (filter passes (values_of es)) →
            map (λ (f : J × Y). f.1) (map (λ (f : K × X). (mk f.0, gives f.1)) (cond b (e ∷ filter (λ (f : K × X). passes f.1) es) (filter (λ (f : K × X). passes f.1) es)))
            ≡ map gives (cond b (e.1 ∷ filter passes (values_of es)) (filter passes (values_of es)))
        by_test true rest = ap (λ l. gives e.1 ∷ l) rest
        by_test false rest = rest

    -- what the run gives, in the order of the map
    pub index-values : (es : List (K × X)) (index : List (J × Y)) → IsStrictlySortedBy cmp (keys_of es) → IsStrictlySortedBy index_cmp (keys_of index) → IsIndex cmp index_cmp names takes gives es index →
        map (λ (e : J × Y). e.1) (filter (λ (e : J × Y). among e.0) index) ≡ map gives (filter passes (values_of es))
    index-values es index s t i = ap (map (λ (e : J × Y). e.1)) (index-run es index s t i) ∙ values_in es
