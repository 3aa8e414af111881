-- What a set's keys are after one more was put in: as the definitions put one in its place.
use Rattle.std.proofs.Common.{◌≡◌, ℕ, ◌+◌, ◌<◌, Bool, true, false, cond, List, [], ◌∷◌, length, take, get_or, is_lt, is_eq, refl, sym, ap, ◌∙◌}
use Rattle.std.proofs.lemmas.List.{take_more}
use Rattle.std.specs.Ordering.{match_ordering}
use Rattle.std.specs.BTreeSet.{insert_key}
use Rattle.std.specs.declared.cmp.Ordering.{Ordering}
use Rattle.std.specs.declared.cmp.Ordering.TheVariants.{Less, Equal, Greater}
use Rattle.dg_base.specs.Order.{put_by, ordered_by}
use Rattle.dg_laws.proofs.Orders.{Ranks, Compares, ordered-push}

module _ {X : Type 0} {cmp : X → X → Ordering} {same before : X → X → Bool} (c : Compares cmp same before) where
  pub insert_key-put_by : (xs : List X) (x : X) → insert_key cmp xs x ≡ put_by same before x xs
  insert_key-put_by [] x = refl
  insert_key-put_by (y ∷ ys) x = by_order (cmp x y) refl (insert_key-put_by ys x)
    where
      by_order : (o : Ordering) → cmp x y ≡ o → insert_key cmp ys x ≡ put_by same before x ys →
          match_ordering o (x ∷ y ∷ ys) (y ∷ ys) (y ∷ insert_key cmp ys x) ≡ cond (same x y) (y ∷ ys) (cond (before x y) (x ∷ y ∷ ys) (y ∷ put_by same before x ys))
      by_order Less is rest =
          let other : same x y ≡ false = c.tells_same x y ∙ ap is_eq is in
          let first : before x y ≡ true = sym (c.tells_before x y) ∙ ap is_lt is in
          rw (other, first) refl
      by_order Equal is rest =
          let one : same x y ≡ true = c.tells_same x y ∙ ap is_eq is in
          rw one refl
      by_order Greater is rest =
          let other : same x y ≡ false = c.tells_same x y ∙ ap is_eq is in
          let later : before x y ≡ false = sym (c.tells_before x y) ∙ ap is_lt is in
          rw (other, later) (ap (λ (z : List X). y ∷ z) rest)

-- one more of a list
pub ordered-next : {X : Type 0} {same before : X → X → Bool} → Ranks same before → (xs : List X) (i : ℕ) (d : X) → i < length xs →
    put_by same before (get_or xs i d) (ordered_by same before (take i xs)) ≡ ordered_by same before (take (i + 1) xs)
ordered-next {X} {same} {before} r xs i d lt = sym (ordered-push r (take i xs) (get_or xs i d)) ∙ ap (ordered_by same before) (sym (take_more xs i d lt))
