-- Two maps of which each has at the other's values the other's keys, after a change; and what the one tells of the values of the other.
use Rattle.std.proofs.Common.{◌≡◌, ℕ, suc, Bool, true, false, not, cond, ◌||◌, List, [], ◌∷◌, Option, Some, None, filter, slice_get, is_some, refl, sym, ap, ◌∙◌, true≢false}
use Rattle.std.proofs.lemmas.Bool.{or_left, or_right}
use Rattle.std.proofs.lemmas.Map.Entries.{lookup_from_place}
use Rattle.std.proofs.lemmas.Map.Keys.{IsDistinct-from_sorted}
use Rattle.std.specs.Cmp.{IsTotalOrder, eq_by_cmp_equiv}
use Rattle.std.specs.List.{AllByRecursion}
use Rattle.std.specs.List.Sorted.{IsStrictlySortedBy}
use Rattle.std.specs.Map.{keys_of, values_of, lookup, remove_entry}
use Rattle.std.specs.BTreeMap.{is_at, insert_entry}
use Rattle.std.specs.Ordering.{is_eq}
use Rattle.std.specs.declared.cmp.Ordering.{Ordering}
use Rattle.std.specs.declared.cmp.Ordering.TheVariants.{Less, Equal}
use Rattle.dg_laws.proofs.Among.{Tells, is_among, same_answer}
use Rattle.dg_pmap.proofs.Lookups.{equal-is, equal-itself, lookup-insert_entry, lookup-without, lookup-equal, past_head}
use Rattle.dg_arcs.specs.Kept.{IsInverse}

some_not_none : {X : Type 0} {x : X} → None ≡ Some x → ⊥
some_not_none e = cc

some_same : {X : Type 0} {x y : X} → Some x ≡ Some y → x ≡ y
some_same e = cc

module _ {K J : Type 0} {kc : K → K → Ordering} {jc : J → J → Ordering} (o : IsTotalOrder kc) (n : IsTotalOrder jc) (k-exact : (a b : K) → kc a b ≡ Equal → a ≡ b) (j-exact : (a b : J) → jc a b ≡ Equal → a ≡ b) (es : List (K × J)) (fs : List (J × K)) (i : IsInverse kc jc es fs) (k : K) (j : J) where
  key-is : (a : K) → is_eq (kc a k) ≡ true → a ≡ k
  key-is a h = k-exact a k (equal-is _ h)

  value-is : (a : J) → is_eq (jc a j) ≡ true → a ≡ j
  value-is a h = j-exact a j (equal-is _ h)

  -- a new pair
  pub inverse-insert : lookup (is_at (kc k)) es ≡ None → lookup (is_at (jc j)) fs ≡ None → IsInverse kc jc (insert_entry kc es k j) (insert_entry jc fs j k)
  inverse-insert no_key no_value = record {
    forth = λ a b h. lookup-insert_entry n j b k fs ∙ at_value a b (is_eq (kc a k)) (is_eq (jc b j)) refl refl (sym (lookup-insert_entry o k a j es) ∙ h);
    back = λ a b h. lookup-insert_entry o k a j es ∙ at_key a b (is_eq (jc b j)) (is_eq (kc a k)) refl refl (sym (lookup-insert_entry n j b k fs) ∙ h);
  }
    where
      at_value : (a : K) (b : J) (s t : Bool) → is_eq (kc a k) ≡ s → is_eq (jc b j) ≡ t → cond (is_eq (kc a k)) (Some j) (lookup (is_at (kc a)) es) ≡ Some b → cond (is_eq (jc b j)) (Some k) (lookup (is_at (jc b)) fs) ≡ Some a
      at_value a b true true x y h = rw y (ap (λ z. Some z) (sym (key-is a x)))
      at_value a b true false x y h =
          let is : j ≡ b = some_same (sym (ap (λ t. cond t (Some j) (lookup (is_at (kc a)) es)) x) ∙ h) in
          absurd (true≢false (sym (equal-itself n j) ∙ ap (λ z. is_eq (jc z j)) is ∙ y))
      at_value a b false true x y h =
          let found : lookup (is_at (kc a)) es ≡ Some b = sym (ap (λ t. cond t (Some j) (lookup (is_at (kc a)) es)) x) ∙ h in
          absurd (some_not_none (sym no_value ∙ sym (lookup-equal n b j y fs) ∙ i.forth a b found))
      at_value a b false false x y h = rw y (i.forth a b (sym (ap (λ t. cond t (Some j) (lookup (is_at (kc a)) es)) x) ∙ h))

      at_key : (a : K) (b : J) (t s : Bool) → is_eq (jc b j) ≡ t → is_eq (kc a k) ≡ s → cond (is_eq (jc b j)) (Some k) (lookup (is_at (jc b)) fs) ≡ Some a → cond (is_eq (kc a k)) (Some j) (lookup (is_at (kc a)) es) ≡ Some b
      at_key a b true true y x h = rw x (ap (λ z. Some z) (sym (value-is b y)))
      at_key a b true false y x h =
          let is : k ≡ a = some_same (sym (ap (λ t. cond t (Some k) (lookup (is_at (jc b)) fs)) y) ∙ h) in
          absurd (true≢false (sym (equal-itself o k) ∙ ap (λ z. is_eq (kc z k)) is ∙ x))
      at_key a b false true y x h =
          let found : lookup (is_at (jc b)) fs ≡ Some a = sym (ap (λ t. cond t (Some k) (lookup (is_at (jc b)) fs)) y) ∙ h in
          absurd (some_not_none (sym no_key ∙ sym (lookup-equal o a k x es) ∙ i.back a b found))
      at_key a b false false y x h = rw x (i.back a b (sym (ap (λ t. cond t (Some k) (lookup (is_at (jc b)) fs)) y) ∙ h))

  -- without a pair
  pub inverse-remove : IsStrictlySortedBy kc (keys_of es) → IsStrictlySortedBy jc (keys_of fs) → lookup (is_at (jc j)) fs ≡ Some k → IsInverse kc jc (remove_entry (is_at (kc k)) es) (remove_entry (is_at (jc j)) fs)
  inverse-remove s t there = record {
    forth = λ a b h. lookup-without n j b fs t ∙ at_value a b (is_eq (kc a k)) (is_eq (jc b j)) refl refl (sym (lookup-without o k a es s) ∙ h);
    back = λ a b h. lookup-without o k a es s ∙ at_key a b (is_eq (jc b j)) (is_eq (kc a k)) refl refl (sym (lookup-without n j b fs t) ∙ h);
  }
    where
      here : lookup (is_at (kc k)) es ≡ Some j
      here = i.back k j there

      at_value : (a : K) (b : J) (x y : Bool) → is_eq (kc a k) ≡ x → is_eq (jc b j) ≡ y → cond (is_eq (kc a k)) None (lookup (is_at (kc a)) es) ≡ Some b → cond (is_eq (jc b j)) None (lookup (is_at (jc b)) fs) ≡ Some a
      at_value a b true y p q h = absurd (some_not_none (sym (ap (λ c. cond c None (lookup (is_at (kc a)) es)) p) ∙ h))
      at_value a b false true p q h =
          let found : lookup (is_at (kc a)) es ≡ Some b = sym (ap (λ c. cond c None (lookup (is_at (kc a)) es)) p) ∙ h in
          let is : a ≡ k = some_same (sym (i.forth a b found) ∙ lookup-equal n b j q fs ∙ there) in
          absurd (true≢false (sym (equal-itself o k) ∙ ap (λ z. is_eq (kc z k)) (sym is) ∙ p))
      at_value a b false false p q h = rw q (i.forth a b (sym (ap (λ c. cond c None (lookup (is_at (kc a)) es)) p) ∙ h))

      at_key : (a : K) (b : J) (y x : Bool) → is_eq (jc b j) ≡ y → is_eq (kc a k) ≡ x → cond (is_eq (jc b j)) None (lookup (is_at (jc b)) fs) ≡ Some a → cond (is_eq (kc a k)) None (lookup (is_at (kc a)) es) ≡ Some b
      at_key a b true x q p h = absurd (some_not_none (sym (ap (λ c. cond c None (lookup (is_at (jc b)) fs)) q) ∙ h))
      at_key a b false true q p h =
          let found : lookup (is_at (jc b)) fs ≡ Some a = sym (ap (λ c. cond c None (lookup (is_at (jc b)) fs)) q) ∙ h in
          let is : b ≡ j = some_same (sym (i.back a b found) ∙ lookup-equal o a k p es ∙ here) in
          absurd (true≢false (sym (equal-itself n j) ∙ ap (λ z. is_eq (jc z j)) (sym is) ∙ q))
      at_key a b false false q p h = rw p (i.back a b (sym (ap (λ c. cond c None (lookup (is_at (jc b)) fs)) q) ∙ h))

-- ---- the values of a map that has an inverse

module _ {K J : Type 0} {kc : K → K → Ordering} {same : J → J → Bool} (o : IsTotalOrder kc) (k-exact : (a b : K) → kc a b ≡ Equal → a ≡ b) (t : Tells same) where
  among_found : (k : K) (j : J) (es : List (K × J)) → lookup (is_at (kc k)) es ≡ Some j → is_among same (values_of es) j ≡ true
  among_found k j [] h = absurd (some_not_none h)
  among_found k j (e ∷ es) h = by_test (is_eq (kc k e.0)) h (among_found k j es)
    where
      by_test : (b : Bool) → cond b (Some e.1) (lookup (is_at (kc k)) es) ≡ Some j → (lookup (is_at (kc k)) es ≡ Some j → is_among same (values_of es) j ≡ true) → (same j e.1 || is_among same (values_of es) j) ≡ true
      by_test true h rest = or_left _ _ (ap (same j) (some_same h) ∙ t.itself j)
      by_test false h rest = or_right (same j e.1) _ (rest h)

  found_among : (j : J) (es : List (K × J)) → IsStrictlySortedBy kc (keys_of es) → is_among same (values_of es) j ≡ true → (k : K) × (lookup (is_at (kc k)) es ≡ Some j)
  unfolding IsStrictlySortedBy
  found_among j [] s h = absurd (true≢false (sym h))
  found_among j (e ∷ es) s h = by_test (same j e.1) refl h (found_among j es s.1)
    where
      by_key : (k : K) → lookup (is_at (kc k)) es ≡ Some j → (b : Bool) → is_eq (kc k e.0) ≡ b → lookup (is_at (kc k)) (e ∷ es) ≡ Some j
      by_key k found true is = absurd (some_not_none (sym (past_head o k-exact e es k s is) ∙ found))
      by_key k found false is = ap (λ b. cond b (Some e.1) (lookup (is_at (kc k)) es)) is ∙ found

      by_test : (b : Bool) → same j e.1 ≡ b → (b || is_among same (values_of es) j) ≡ true → (is_among same (values_of es) j ≡ true → (k : K) × (lookup (is_at (kc k)) es ≡ Some j)) → (k : K) × (lookup (is_at (kc k)) (e ∷ es) ≡ Some j)
      by_test true is h rest = (e.0, ap (λ b. cond b (Some e.1) (lookup (is_at (kc e.0)) es)) (equal-itself o e.0) ∙ ap (λ z. Some z) (sym (t.is j e.1 is)))
      by_test false is h rest = let r = rest h in (r.0, by_key r.0 r.1 (is_eq (kc r.0 e.0)) refl)

  -- without the pair of a value
  others_stay : (k : K) (j : J) (e : K × J) (es : List (K × J)) → is_eq (kc k e.0) ≡ true → AllByRecursion (λ y. kc e.0 y ≡ Less) (keys_of es) → ((i : ℕ) (f : K × J) → slice_get es i ≡ Some f → same j f.1 ≡ is_eq (kc k f.0)) →
      filter (λ b. not (same j b)) (values_of es) ≡ values_of es
  others_stay k j e [] is a at = refl
  others_stay k j e (f ∷ es) is a at =
      let less : kc k f.0 ≡ Less = o.congr k e.0 f.0 (equal-is _ is) ∙ a.0 in
      let other : same j f.1 ≡ false = at 0 f refl ∙ ap is_eq less in
      rw other (ap (λ l. f.1 ∷ l) (others_stay k j e es is a.1 (λ i. at (suc i))))

  values_without : (k : K) (j : J) (es : List (K × J)) → IsStrictlySortedBy kc (keys_of es) → ((i : ℕ) (e : K × J) → slice_get es i ≡ Some e → same j e.1 ≡ is_eq (kc k e.0)) →
      values_of (remove_entry (is_at (kc k)) es) ≡ filter (λ b. not (same j b)) (values_of es)
  unfolding IsStrictlySortedBy
  values_without k j [] s at = refl
  values_without k j (e ∷ es) s at = by_test (is_eq (kc k e.0)) refl (at 0 e refl) (values_without k j es s.1 (λ i. at (suc i)))
    where
      by_test : (b : Bool) → is_eq (kc k e.0) ≡ b → same j e.1 ≡ is_eq (kc k e.0) → values_of (remove_entry (is_at (kc k)) es) ≡ filter (λ c. not (same j c)) (values_of es) →
          values_of (cond b es (e ∷ remove_entry (is_at (kc k)) es)) ≡ filter (λ c. not (same j c)) (values_of (e ∷ es))
      by_test true is h rest = let here : same j e.1 ≡ true = h ∙ is in rw here (sym (others_stay k j e es is s.0 (λ i. at (suc i))))
      by_test false is h rest = let other : same j e.1 ≡ false = h ∙ is in rw other (ap (λ l. e.1 ∷ l) rest)

module _ {K J : Type 0} {kc : K → K → Ordering} {jc : J → J → Ordering} {same : J → J → Bool} (o : IsTotalOrder kc) (k-exact : (a b : K) → kc a b ≡ Equal → a ≡ b) (t : Tells same) (es : List (K × J)) (fs : List (J × K)) (i : IsInverse kc jc es fs) (s : IsStrictlySortedBy kc (keys_of es)) where
  -- whether a value is there, by the inverse
  pub among-inverse : (j : J) → is_some (lookup (is_at (jc j)) fs) ≡ is_among same (values_of es) j
  among-inverse j = same_answer (is_some (lookup (is_at (jc j)) fs)) (is_among same (values_of es) j) (λ h. by_found (lookup (is_at (jc j)) fs) refl h) (λ h. let r = found_among o k-exact t j es s h in ap is_some (i.forth r.0 j r.1))
    where
      by_found : (found : Option K) → lookup (is_at (jc j)) fs ≡ found → is_some found ≡ true → is_among same (values_of es) j ≡ true
      by_found None is h = absurd (true≢false (sym h))
      by_found (Some k) is h = among_found o k-exact t k j es (i.back k j is)

  -- without the pair of a value
  pub values-remove : (k : K) (j : J) → lookup (is_at (jc j)) fs ≡ Some k →
      values_of (remove_entry (is_at (kc k)) es) ≡ filter (λ b. not (same j b)) (values_of es)
  values-remove k j there = values_without o k-exact t k j es s (λ p e at. by_both e (place p e at))
    where
      place : (p : ℕ) (e : K × J) → slice_get es p ≡ Some e → lookup (is_at (kc e.0)) es ≡ Some e.1
      place p e at = lookup_from_place (eq_by_cmp_equiv o) es p e.0 e.1 (IsDistinct-from_sorted kc (keys_of es) s) at

      by_both : (e : K × J) → lookup (is_at (kc e.0)) es ≡ Some e.1 → same j e.1 ≡ is_eq (kc k e.0)
      by_both e found = same_answer (same j e.1) (is_eq (kc k e.0))
          (λ h. let is : e.0 ≡ k = some_same (sym (i.forth e.0 e.1 found) ∙ ap (λ z. lookup (is_at (jc z)) fs) (sym (t.is j e.1 h)) ∙ there) in ap (λ z. is_eq (kc k z)) is ∙ equal-itself o k)
          (λ h. let is : j ≡ e.1 = some_same (sym (i.back k j there) ∙ lookup-equal o k e.0 h es ∙ found) in ap (same j) (sym is) ∙ t.itself j)
