-- Depth-first walks: how a loop with a stack computes one, and what it lists.
use Rattle.std.proofs.Common.{◌≡◌, ℕ, zero, suc, ◌+◌, ◌<◌, ◌≤◌, ◌⊎◌, Bool, true, false, not, cond, List, [], ◌∷◌, ◌++◌, fold, filter, length, reverse, IsTrue, refl, sym, ap, ◌∙◌, subst, inl, inr, arith, true≢false, append_assoc, append-nil}
use Rattle.std.proofs.lemmas.Bool.{or_cases, or_left, or_right, not_from_true, not_from_false, cases_Bool}
use Rattle.std.proofs.lemmas.List.{reverse-append, reverse-reverse}
use Rattle.std.proofs.lemmas.List.Sums.{fold-append}
use Rattle.dg_base.specs.Walk.{walk_within}
use Rattle.dg_laws.proofs.Filters.{contrary, length_filter_le, filter_weaker, filter_fewer}
use Rattle.dg_laws.proofs.Among.{Tells, is_among, Contains_from_among, among-more, among-last, among_push-cases, among_one-is}

-- how many of a list are still unmet
unfoldable pub unmet : {X : Type 0} → (X → X → Bool) → List X → List X → ℕ
unmet same ns met = length (filter (λ m. not (is_among same met m)) ns)

-- how much is left to do: each unmet one of a list and what follows it
unfoldable pub work : {X : Type 0} → (X → X → Bool) → (X → List X) → List X → List X → ℕ
work same follow met [] = 0
work same follow met (m ∷ ms) = cond (is_among same met m) 0 (suc (length (follow m))) + work same follow met ms

-- what follows a member of the list is in the list
pub record IsClosed {X : Type 0} (same : X → X → Bool) (follow : X → List X) (ns : List X) : Type 0 where
  pub stays : (n m : X) → IsTrue (is_among same ns n) → IsTrue (is_among same (follow n) m) → IsTrue (is_among same ns m)

-- each of these is in the list
abbrev pub IsIn : {X : Type 0} → (X → X → Bool) → List X → List X → Type 0
IsIn {X} same todo ns = (m : X) → IsTrue (is_among same todo m) → IsTrue (is_among same ns m)

-- all of the first list stands in front of the second
abbrev pub Begins : {X : Type 0} → List X → List X → Type 0
Begins {X} met all = (more : List X) × (all ≡ met ++ more)

-- all that was met, in front; all of the stack; and what follows each one that is new
pub record IsWalk {X : Type 0} (same : X → X → Bool) (follow : X → List X) (met todo all : List X) : Type 0 where
  pub begins : Begins met all
  pub reaches : (m : X) → IsTrue (is_among same todo m) → IsTrue (is_among same all m)
  pub closed : (m x : X) → IsTrue (is_among same all m) → is_among same met m ≡ false → IsTrue (is_among same (follow m) x) → IsTrue (is_among same all x)

-- a test that each passes which follows one that passes
abbrev pub IsKept : {X : Type 0} → (X → X → Bool) → (X → List X) → (X → Bool) → Type 0
IsKept {X} same follow p = (m x : X) → p m ≡ true → IsTrue (is_among same (follow m) x) → p x ≡ true

-- each of these passes a test
abbrev pub AllOf : {X : Type 0} → (X → X → Bool) → List X → (X → Bool) → Type 0
AllOf {X} same ns p = (m : X) → IsTrue (is_among same ns m) → p m ≡ true

-- what meets one more, and what comes after it
abbrev Step : Type 0 → Type 0
Step X = List X → X → List X

module _ {X : Type 0} {same : X → X → Bool} (s : Tells same) where
  -- ---- how many of a list are still unmet

  pub unmet-le-length : (ns met : List X) → unmet same ns met ≤ length ns
  unfolding unmet
  unmet-le-length ns met = length_filter_le (λ m. not (is_among same met m)) ns

  pub unmet-more : (ns met more : List X) → unmet same ns (met ++ more) ≤ unmet same ns met
  unfolding unmet
  unmet-more ns met more =
      filter_weaker (λ m. not (is_among same (met ++ more) m)) (λ m. not (is_among same met m))
      (λ m. contrary (is_among same met m) (is_among same (met ++ more) m) (among-more s met more m)) ns

  pub unmet-push : (ns met : List X) (n : X) → IsTrue (is_among same ns n) → is_among same met n ≡ false → unmet same ns (met ++ n ∷ []) < unmet same ns met
  unfolding unmet
  unmet-push ns met n there new =
      filter_fewer (λ m. not (is_among same (met ++ n ∷ []) m)) (λ m. not (is_among same met m))
      (λ m. contrary (is_among same met m) (is_among same (met ++ n ∷ []) m) (among-more s met (n ∷ []) m)) ns n (Contains_from_among s ns n there)
      (not_from_true _ (among-last s met n)) (not_from_false _ new)

  -- ---- more levels than there are unmet ones change nothing

  fold-begins : (f : Step X) → ((met : List X) (n : X) → Begins met (f met n)) → (todo met : List X) → Begins met (fold f met todo)
  fold-begins f h [] met = ([], sym (append-nil met))
  fold-begins f h (n ∷ todo) met =
      let a = h met n in
      let b = fold-begins f h todo (f met n) in
      (a.0 ++ b.0, b.1 ∙ ap (λ (z : List X). z ++ b.0) a.1 ∙ append_assoc met a.0 b.0)

  -- a walk begins with what was met
  pub walk-begins : (follow : X → List X) (k : ℕ) (met : List X) (n : X) → Begins met (walk_within same k follow met n)
  walk-begins follow zero met n = ([], sym (append-nil met))
  walk-begins follow (suc k) met n =
      let rest = fold-begins (walk_within same k follow) (walk-begins follow k) (follow n) (met ++ n ∷ []) in
      elim (is_among same met n) as (λ b. Begins met (cond b met (fold (walk_within same k follow) (met ++ n ∷ []) (follow n)))) [
        | true ↦ ([], sym (append-nil met))
        | false ↦ (n ∷ rest.0, rest.1 ∙ append_assoc met (n ∷ []) rest.0)
      ]

  pub walks-begin : (follow : X → List X) (k : ℕ) (met todo : List X) → Begins met (fold (walk_within same k follow) met todo)
  walks-begin follow k met todo = fold-begins (walk_within same k follow) (walk-begins follow k) todo met

  pub walk-met : (follow : X → List X) (k : ℕ) (met : List X) (n : X) → IsTrue (is_among same met n) → walk_within same k follow met n ≡ met
  walk-met follow zero met n h = refl
  walk-met follow (suc k) met n h = ap (λ b. cond b met (fold (walk_within same k follow) (met ++ n ∷ []) (follow n))) h

  walk-new : (follow : X → List X) (k : ℕ) (met : List X) (n : X) → is_among same met n ≡ false →
      walk_within same (suc k) follow met n ≡ fold (walk_within same k follow) (met ++ n ∷ []) (follow n)
  walk-new follow k met n h = ap (λ b. cond b met (fold (walk_within same k follow) (met ++ n ∷ []) (follow n))) h

  first_in : (ns todo : List X) (n : X) → IsIn same (n ∷ todo) ns → IsTrue (is_among same ns n)
  first_in ns todo n h = h n (or_left _ (is_among same todo n) (s.itself n))

  rest_in : (ns todo : List X) (n : X) → IsIn same (n ∷ todo) ns → IsIn same todo ns
  rest_in ns todo n h m c = h m (or_right (same m n) _ c)

  module _ (follow : X → List X) (ns : List X) where
    unmet-begins : (met all : List X) → Begins met all → unmet same ns all ≤ unmet same ns met
    unmet-begins met all b = subst (λ (z : List X). unmet same ns z ≤ unmet same ns met) (sym b.1) (unmet-more ns met b.0)

    fold-same : (f h : Step X) (k : ℕ) → ((met : List X) (n : X) → Begins met (f met n)) →
        ((met : List X) (n : X) → IsTrue (is_among same ns n) → unmet same ns met ≤ k → f met n ≡ h met n) →
        (todo met : List X) → IsIn same todo ns → unmet same ns met ≤ k → fold f met todo ≡ fold h met todo
    fold-same f h k begins agree [] met inside le = refl
    fold-same f h k begins agree (n ∷ todo) met inside le =
        let less = unmet-begins met (f met n) (begins met n) in
        fold-same f h k begins agree todo (f met n) (rest_in ns todo n inside) (omega arith)
        ∙ ap (λ (z : List X). fold h z todo) (agree met n (first_in ns todo n inside) le)

    none_unmet : (met : List X) (n : X) → IsTrue (is_among same ns n) → unmet same ns met ≤ 0 → IsTrue (is_among same met n)
    none_unmet met n there le =
        elim (cases_Bool (is_among same met n)) [
          | inl is ↦ is
          | inr new ↦ let less = unmet-push ns met n there new in absurd (omega arith)
        ]

    pub walk-same : IsClosed same follow ns → (j k : ℕ) (met : List X) (n : X) → IsTrue (is_among same ns n) → unmet same ns met ≤ j → unmet same ns met ≤ k →
        walk_within same j follow met n ≡ walk_within same k follow met n
    walk-same c zero k met n there a b = sym (walk-met follow k met n (none_unmet met n there a))
    walk-same c (suc j) zero met n there a b = walk-met follow (suc j) met n (none_unmet met n there b)
    walk-same c (suc j) (suc k) met n there a b =
        by_test (cases_Bool (is_among same met n)) (λ all m is p q. walk-same c j k all m is p q)
      where
        by_test : (is_among same met n ≡ true) ⊎ (is_among same met n ≡ false) →
            ((all : List X) (m : X) → IsTrue (is_among same ns m) → unmet same ns all ≤ j → unmet same ns all ≤ k → walk_within same j follow all m ≡ walk_within same k follow all m) →
            walk_within same (suc j) follow met n ≡ walk_within same (suc k) follow met n
        by_test (inl is) agree = walk-met follow (suc j) met n is ∙ sym (walk-met follow (suc k) met n is)
        by_test (inr new) agree =
            let less = unmet-push ns met n there new in
            walk-new follow j met n new
            ∙ fold-same (walk_within same j follow) (walk_within same k follow) (unmet same ns (met ++ n ∷ [])) (walk-begins follow j)
            (λ all m is le. agree all m is (omega arith) (omega arith)) (follow n) (met ++ n ∷ []) (λ m f. c.stays n m there f) (omega arith)
            ∙ sym (walk-new follow k met n new)

    -- ---- a loop with a stack

    -- the first of the stack was met
    pub walks-met : (k : ℕ) (met todo : List X) (n : X) → IsTrue (is_among same met n) →
        fold (walk_within same k follow) met (n ∷ todo) ≡ fold (walk_within same k follow) met todo
    walks-met k met todo n h = ap (λ (z : List X). fold (walk_within same k follow) z todo) (walk-met follow k met n h)

    -- the first of the stack is new: it is met now, and what follows it comes next
    pub walks-new : IsClosed same follow ns → (k : ℕ) (met todo : List X) (n : X) → unmet same ns met ≤ k → IsTrue (is_among same ns n) → is_among same met n ≡ false →
        fold (walk_within same k follow) met (n ∷ todo) ≡ fold (walk_within same k follow) (met ++ n ∷ []) (follow n ++ todo)
    walks-new c zero met todo n le there new = absurd (true≢false (sym (none_unmet met n there le) ∙ new))
    walks-new c (suc k) met todo n le there new =
        let less = unmet-push ns met n there new in
        let deeper : fold (walk_within same k follow) (met ++ n ∷ []) (follow n) ≡ fold (walk_within same (suc k) follow) (met ++ n ∷ []) (follow n) =
        fold-same (walk_within same k follow) (walk_within same (suc k) follow) (unmet same ns (met ++ n ∷ [])) (walk-begins follow k)
        (λ all m is fits. walk-same c k (suc k) all m is (omega arith) (omega arith)) (follow n) (met ++ n ∷ []) (λ m f. c.stays n m there f) (omega arith)
        in
        ap (λ (z : List X). fold (walk_within same (suc k) follow) z todo) (walk-new follow k met n new ∙ deeper)
        ∙ sym (fold-append (walk_within same (suc k) follow) (met ++ n ∷ []) (follow n) todo)

    pub walks-stack : IsClosed same follow ns → (k : ℕ) (met todo : List X) (n : X) → unmet same ns met ≤ k → IsTrue (is_among same ns n) →
        fold (walk_within same k follow) met (n ∷ todo)
        ≡ cond (is_among same met n) (fold (walk_within same k follow) met todo) (fold (walk_within same k follow) (met ++ n ∷ []) (follow n ++ todo))
    walks-stack c k met todo n le there =
        elim (cases_Bool (is_among same met n)) [
          | inl is ↦ walks-met k met todo n is ∙ sym (ap (λ b. cond b (fold (walk_within same k follow) met todo) (fold (walk_within same k follow) (met ++ n ∷ []) (follow n ++ todo))) is)
          | inr new ↦ walks-new c k met todo n le there new ∙ sym (ap (λ b. cond b (fold (walk_within same k follow) met todo) (fold (walk_within same k follow) (met ++ n ∷ []) (follow n ++ todo))) new)
        ]

    -- the same for a stack that is kept from its end, whose last is next
    pub walks-pop : IsClosed same follow ns → (k : ℕ) (met stack : List X) (n : X) → unmet same ns met ≤ k → IsTrue (is_among same ns n) →
        fold (walk_within same k follow) met (reverse (stack ++ n ∷ []))
        ≡ cond (is_among same met n) (fold (walk_within same k follow) met (reverse stack)) (fold (walk_within same k follow) (met ++ n ∷ []) (reverse (stack ++ reverse (follow n))))
    walks-pop c k met stack n le there =
        let last : reverse (stack ++ n ∷ []) ≡ n ∷ reverse stack = reverse-append stack (n ∷ []) in
        let more : reverse (stack ++ reverse (follow n)) ≡ follow n ++ reverse stack =
        reverse-append stack (reverse (follow n)) ∙ ap (λ (z : List X). z ++ reverse stack) (reverse-reverse (follow n))
        in
        ap (fold (walk_within same k follow) met) last
        ∙ walks-stack c k met (reverse stack) n le there
        ∙ ap (λ (z : List X). cond (is_among same met n) (fold (walk_within same k follow) met (reverse stack)) (fold (walk_within same k follow) (met ++ n ∷ []) z)) (sym more)

  -- ---- how much is left to do: each unmet same node and what follows it

  work_at : (a b : Bool) (w : ℕ) → (a ≡ true → b ≡ true) → cond b 0 w ≤ cond a 0 w
  work_at true true w h = omega arith
  work_at true false w h = absurd (true≢false (sym (h refl)))
  work_at false true w h = omega arith
  work_at false false w h = omega arith

  pub work-more : (follow : X → List X) (met more ns : List X) → work same follow (met ++ more) ns ≤ work same follow met ns
  unfolding work
  work-more follow met more [] = omega arith
  work-more follow met more (m ∷ ns) =
      let rest = work-more follow met more ns in
      let here = work_at (is_among same met m) (is_among same (met ++ more) m) (suc (length (follow m))) (among-more s met more m) in
      omega (arith, rest, here)

  pub work-push : (follow : X → List X) (met ns : List X) (n : X) → IsTrue (is_among same ns n) → is_among same met n ≡ false →
      work same follow (met ++ n ∷ []) ns + suc (length (follow n)) ≤ work same follow met ns
  unfolding work
  work-push follow met [] n there new = absurd (true≢false (sym there))
  work-push follow met (m ∷ ns) n there new =
      elim (or_cases (same n m) (is_among same ns n) there) [
        | inl here ↦
            let is : n ≡ m = s.is n m here in
            let later = work-more follow met (n ∷ []) ns in
            let met_now : is_among same (met ++ n ∷ []) m ≡ true = subst (λ (z : X). IsTrue (is_among same (met ++ n ∷ []) z)) is (among-last s met n) in
            let new_then : is_among same met m ≡ false = subst (λ (z : X). is_among same met z ≡ false) is new in
            let long : length (follow n) ≡ length (follow m) = ap (λ (z : X). length (follow z)) is in
            rw (met_now, new_then) (omega (arith, later, long))
        | inr rest ↦
            let later = work-push follow met ns n rest new in
            let here = work_at (is_among same met m) (is_among same (met ++ n ∷ []) m) (suc (length (follow m))) (among-more s met (n ∷ []) m) in
            omega (arith, later, here)
      ]

  -- ---- what a walk lists

  begins-kept : (met all : List X) → Begins met all → (m : X) → IsTrue (is_among same met m) → IsTrue (is_among same all m)
  begins-kept met all b m h = subst (λ (z : List X). IsTrue (is_among same z m)) (sym b.1) (among-more s met b.0 m h)

  begins-trans : (a b c : List X) → Begins a b → Begins b c → Begins a c
  begins-trans a b c x y = (x.0 ++ y.0, y.1 ∙ ap (λ (z : List X). z ++ y.0) x.1 ∙ append_assoc a x.0 y.0)

  module _ (follow : X → List X) (ns : List X) where
    fold-is_walk : (f : Step X) (k : ℕ) →
        ((met : List X) (n : X) → IsTrue (is_among same ns n) → unmet same ns met ≤ k → IsWalk same follow met (n ∷ []) (f met n)) →
        (todo met : List X) → IsIn same todo ns → unmet same ns met ≤ k → IsWalk same follow met todo (fold f met todo)
    fold-is_walk f k h [] met inside le = record {
      begins = ([], sym (append-nil met));
      reaches = λ m none. absurd (true≢false (sym none));
      closed = λ m x here new follows. absurd (true≢false (sym here ∙ new));
    }
    fold-is_walk f k h (n ∷ todo) met inside le =
        joined (h met n (first_in ns todo n inside) le)
        (fold-is_walk f k h todo (f met n) (rest_in ns todo n inside)
        (let less = unmet-begins follow ns met (f met n) (h met n (first_in ns todo n inside) le).begins in omega arith))
      where
        joined : IsWalk same follow met (n ∷ []) (f met n) → IsWalk same follow (f met n) todo (fold f (f met n) todo) → IsWalk same follow met (n ∷ todo) (fold f (f met n) todo)
        joined a b = record {
          begins = begins-trans met (f met n) (fold f (f met n) todo) a.begins b.begins;
          reaches = λ m here. elim (or_cases (same m n) (is_among same todo m) here) [
            | inl first ↦ begins-kept _ _ b.begins m (a.reaches m (or_left _ false first))
            | inr rest ↦ b.reaches m rest
          ];
          closed = λ m x here new follows. elim (cases_Bool (is_among same (f met n) m)) [
            | inl first ↦ begins-kept _ _ b.begins x (a.closed m x first new follows)
            | inr later ↦ b.closed m x here later follows
          ];
        }

    walk-at_once : (met : List X) (n : X) → IsTrue (is_among same met n) → IsWalk same follow met (n ∷ []) met
    walk-at_once met n is = record {
      begins = ([], sym (append-nil met));
      reaches = λ m here. subst (λ (z : X). IsTrue (is_among same met z)) (sym (among_one-is s n m here)) is;
      closed = λ m x here new follows. absurd (true≢false (sym here ∙ new));
    }

    -- a walk of what follows a node that is met now, as a walk from the node
    walk-from_next : (met all : List X) (n : X) → IsWalk same follow (met ++ n ∷ []) (follow n) all → IsWalk same follow met (n ∷ []) all
    walk-from_next met all n w = record {
      begins = (n ∷ w.begins.0, w.begins.1 ∙ append_assoc met (n ∷ []) w.begins.0);
      reaches = λ m here. begins-kept _ _ w.begins m (subst (λ (z : X). IsTrue (is_among same (met ++ n ∷ []) z)) (sym (among_one-is s n m here)) (among-last s met n));
      closed = λ m x here new follows. elim (cases_Bool (is_among same (met ++ n ∷ []) m)) [
        | inl now ↦ elim (among_push-cases s met n m now) [
          | inl before ↦ absurd (true≢false (sym before ∙ new))
          | inr is ↦ w.reaches x (subst (λ (z : X). IsTrue (is_among same (follow z) x)) is follows)
        ]
        | inr later ↦ w.closed m x here later follows
      ];
    }

    pub walk-is_walk : IsClosed same follow ns → (k : ℕ) (met : List X) (n : X) → IsTrue (is_among same ns n) → unmet same ns met ≤ k →
        IsWalk same follow met (n ∷ []) (walk_within same k follow met n)
    walk-is_walk c zero met n there le = walk-at_once met n (none_unmet follow ns met n there le)
    walk-is_walk c (suc k) met n there le = by_test (cases_Bool (is_among same met n)) (λ all m is fits. walk-is_walk c k all m is fits)
      where
        by_test : (is_among same met n ≡ true) ⊎ (is_among same met n ≡ false) →
            ((all : List X) (m : X) → IsTrue (is_among same ns m) → unmet same ns all ≤ k → IsWalk same follow all (m ∷ []) (walk_within same k follow all m)) →
            IsWalk same follow met (n ∷ []) (walk_within same (suc k) follow met n)
        by_test (inl is) next = subst (IsWalk same follow met (n ∷ [])) (sym (walk-met follow (suc k) met n is)) (walk-at_once met n is)
        by_test (inr new) next =
            let less = unmet-push ns met n there new in
            subst (IsWalk same follow met (n ∷ [])) (sym (walk-new follow k met n new))
            (walk-from_next met _ n (fold-is_walk (walk_within same k follow) k next (follow n) (met ++ n ∷ []) (λ m f. c.stays n m there f) (omega arith)))

    pub walks-are_walk : IsClosed same follow ns → (k : ℕ) (met todo : List X) → IsIn same todo ns → unmet same ns met ≤ k →
        IsWalk same follow met todo (fold (walk_within same k follow) met todo)
    walks-are_walk c k met todo inside le = fold-is_walk (walk_within same k follow) k (λ all m is fits. walk-is_walk c k all m is fits) todo met inside le

  all_of-push : (ns : List X) (n : X) (p : X → Bool) → AllOf same ns p → p n ≡ true → AllOf same (ns ++ n ∷ []) p
  all_of-push ns n p h t m c =
      elim (among_push-cases s ns n m c) [
        | inl before ↦ h m before
        | inr is ↦ ap p is ∙ t
      ]

  fold-least : (f : Step X) (p : X → Bool) → ((met : List X) (n : X) → AllOf same met p → p n ≡ true → AllOf same (f met n) p) →
      (todo met : List X) → AllOf same met p → AllOf same todo p → AllOf same (fold f met todo) p
  fold-least f p h [] met a b = a
  fold-least f p h (n ∷ todo) met a b =
      fold-least f p h todo (f met n) (h met n a (b n (or_left _ (is_among same todo n) (s.itself n)))) (λ m c. b m (or_right (same m n) _ c))

  -- a walk lists no more than has to be there
  pub walk-least : (follow : X → List X) (p : X → Bool) → IsKept same follow p → (k : ℕ) (met : List X) (n : X) →
      AllOf same met p → p n ≡ true → AllOf same (walk_within same k follow met n) p
  walk-least follow p kept zero met n a t = a
  walk-least follow p kept (suc k) met n a t =
      let deeper = fold-least (walk_within same k follow) p (λ all m b u. walk-least follow p kept k all m b u) (follow n) (met ++ n ∷ []) (all_of-push met n p a t) (λ m c. kept n m t c) in
      elim (is_among same met n) as (λ b. AllOf same (cond b met (fold (walk_within same k follow) (met ++ n ∷ []) (follow n))) p) [ true ↦ a | false ↦ deeper ]

  module _ (Q : List X → Type 0) (kept : (met : List X) (n : X) → Q met → is_among same met n ≡ false → Q (met ++ n ∷ [])) where
    fold-keeps : (f : Step X) → ((met : List X) (n : X) → Q met → Q (f met n)) → (todo met : List X) → Q met → Q (fold f met todo)
    fold-keeps f h [] met a = a
    fold-keeps f h (n ∷ todo) met a = fold-keeps f h todo (f met n) (h met n a)

    -- what stays as each new one is met holds of a walk where it held of what was met
    pub walk-keeps : (follow : X → List X) (k : ℕ) (met : List X) (n : X) → Q met → Q (walk_within same k follow met n)
    walk-keeps follow zero met n a = a
    walk-keeps follow (suc k) met n a = by_test (is_among same met n) refl (λ all m b. walk-keeps follow k all m b)
      where
        by_test : (b : Bool) → is_among same met n ≡ b → ((all : List X) (m : X) → Q all → Q (walk_within same k follow all m)) →
            Q (cond b met (fold (walk_within same k follow) (met ++ n ∷ []) (follow n)))
        by_test true e next = a
        by_test false e next = fold-keeps (walk_within same k follow) next (follow n) (met ++ n ∷ []) (kept met n a e)

    pub walks-keep : (follow : X → List X) (k : ℕ) (met todo : List X) → Q met → Q (fold (walk_within same k follow) met todo)
    walks-keep follow k met todo a = fold-keeps (walk_within same k follow) (λ all m b. walk-keeps follow k all m b) todo met a

  -- a walk stays in a list that holds what was met, the node and what follows each of its own
  pub walk-inside : (follow : X → List X) (ns : List X) → IsClosed same follow ns → (k : ℕ) (met : List X) (n : X) →
      IsIn same met ns → IsTrue (is_among same ns n) → IsIn same (walk_within same k follow met n) ns
  walk-inside follow ns c k met n inside there = walk-least follow (is_among same ns) c.stays k met n inside there
