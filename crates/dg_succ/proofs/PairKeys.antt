-- The keys of a map in which nothing stands at a key, as a list in order.
use Rattle.std.proofs.Common.{◌≡◌, Bool, true, false, not, cond, ◌||◌, List, [], ◌∷◌, Some, filter, IsTrue, is_lt, is_eq, refl, sym, ap, ◌∙◌, true≢false}
use Rattle.std.specs.List.{AllByRecursion}
use Rattle.std.specs.List.Sorted.{IsStrictlySortedBy}
use Rattle.std.specs.Map.{keys_of, lookup, remove_entry}
use Rattle.std.specs.BTreeMap.{is_at, insert_entry}
use Rattle.std.specs.Option.{is_some}
use Rattle.std.specs.Ordering.{match_ordering}
use Rattle.std.specs.declared.cmp.Ordering.{Ordering}
use Rattle.std.specs.declared.cmp.Ordering.TheVariants.{Less, Equal, Greater}
use Rattle.dg_base.specs.Order.{put_by, rise_by}
use Rattle.dg_laws.proofs.Among.{is_among}
use Rattle.dg_laws.proofs.Orders.{Ranks, Compares, same_rising, put_by-among, put_by-rise}

module _ {K X : Type 0} {cmp : K → K → Ordering} {same before : K → K → Bool} (c : Compares cmp same before) (k : K) where
  -- whether a key is there
  pub among-keys : (es : List (K × X)) → is_some (lookup (is_at (cmp k)) es) ≡ is_among same (keys_of es) k
  among-keys [] = refl
  among-keys (e ∷ es) = by_test (is_eq (cmp k e.0)) (c.tells_same k e.0) (among-keys es)
    where
      by_test : (b : Bool) → same k e.0 ≡ b → is_some (lookup (is_at (cmp k)) es) ≡ is_among same (keys_of es) k →
          is_some (cond b (Some e.1) (lookup (is_at (cmp k)) es)) ≡ (same k e.0 || is_among same (keys_of es) k)
      by_test true is rest = rw is refl
      by_test false is rest = rw is rest

  -- with one key more
  pub keys-insert_entry : (v : X) (es : List (K × X)) → keys_of (insert_entry cmp es k v) ≡ put_by same before k (keys_of es)
  keys-insert_entry v [] = refl
  keys-insert_entry v (e ∷ es) = by_order (cmp k e.0) refl (keys-insert_entry v es)
    where
      by_order : (o : Ordering) → cmp k e.0 ≡ o → keys_of (insert_entry cmp es k v) ≡ put_by same before k (keys_of es) →
          keys_of (match_ordering o ((k, v) ∷ e ∷ es) ((e.0, v) ∷ es) (e ∷ insert_entry cmp es k v)) ≡ put_by same before k (keys_of (e ∷ es))
      by_order Less is rest =
          let other : same k e.0 ≡ false = c.tells_same k e.0 ∙ ap is_eq is in
          let first : before k e.0 ≡ true = sym (c.tells_before k e.0) ∙ ap is_lt is in
          rw (other, first) refl
      by_order Equal is rest =
          let one : same k e.0 ≡ true = c.tells_same k e.0 ∙ ap is_eq is in
          rw one refl
      by_order Greater is rest =
          let other : same k e.0 ≡ false = c.tells_same k e.0 ∙ ap is_eq is in
          let later : before k e.0 ≡ false = sym (c.tells_before k e.0) ∙ ap is_lt is in
          rw (other, later) (ap (λ (z : List K). e.0 ∷ z) rest)

  -- without a key
  others_stay : (e : K × X) (es : List (K × X)) → same k e.0 ≡ true → AllByRecursion (λ y. cmp e.0 y ≡ Less) (keys_of es) → filter (λ q. not (same k q)) (keys_of es) ≡ keys_of es
  others_stay e [] is a = refl
  others_stay e (f ∷ es) is a =
      let equal : is_eq (cmp k e.0) ≡ true = sym (c.tells_same k e.0) ∙ is in
      let less : cmp k f.0 ≡ Less = c.total.congr k e.0 f.0 (equal_from (cmp k e.0) equal) ∙ a.0 in
      let other : same k f.0 ≡ false = c.tells_same k f.0 ∙ ap is_eq less in
      rw other (ap (λ (z : List K). f.0 ∷ z) (others_stay e es is a.1))
    where
      equal_from : (r : Ordering) → is_eq r ≡ true → r ≡ Equal
      equal_from Less h = absurd (true≢false (sym h))
      equal_from Equal h = refl
      equal_from Greater h = absurd (true≢false (sym h))

  pub keys-remove_entry : (es : List (K × X)) → IsStrictlySortedBy cmp (keys_of es) → keys_of (remove_entry (is_at (cmp k)) es) ≡ filter (λ q. not (same k q)) (keys_of es)
  unfolding IsStrictlySortedBy
  keys-remove_entry [] s = refl
  keys-remove_entry (e ∷ es) s = by_test (is_eq (cmp k e.0)) (c.tells_same k e.0) (keys-remove_entry es s.1)
    where
      by_test : (b : Bool) → same k e.0 ≡ b → keys_of (remove_entry (is_at (cmp k)) es) ≡ filter (λ q. not (same k q)) (keys_of es) →
          keys_of (cond b es (e ∷ remove_entry (is_at (cmp k)) es)) ≡ filter (λ q. not (same k q)) (keys_of (e ∷ es))
      by_test true is rest = rw is (sym (others_stay e es is s.0))
      by_test false is rest = rw is (ap (λ (z : List K). e.0 ∷ z) rest)

-- putting in what is there changes nothing
pub put_by-there : {K : Type 0} {same before : K → K → Bool} → Ranks same before → (k : K) (ks : List K) → IsTrue (rise_by before ks) → is_among same ks k ≡ true → put_by same before k ks ≡ ks
put_by-there {K} {same} {before} r k ks rise there =
    same_rising r (put_by same before k ks) ks (put_by-rise r k ks rise) rise (λ x. put_by-among r k ks x ∙ by_test x (same x k) refl)
  where
    by_test : (x : K) (b : Bool) → same x k ≡ b → (b || is_among same ks x) ≡ is_among same ks x
    by_test x true is = sym (ap (is_among same ks) (r.tells.is x k is) ∙ there)
    by_test x false is = refl
