-- Faults that are kept one after the other are the first of the distinct ones.
use Rattle.std.proofs.Common.{◌≡◌, ℕ, ◌<◌, ◌≤◌, ◌+◌, Bool, true, false, cond, not, ◌&&◌, ◌||◌, List, [], ◌∷◌, ◌++◌, filter, flat_map, length, take, nat_lt, refl, sym, ap, ◌∙◌, arith, append_assoc, append-nil, eqb-true, eq-eqb, ltb-true, true≢false, inl, inr, length-append, take_all, drop, drop-cons, get_or, add-one, suc}
use Rattle.std.proofs.lemmas.Bool.{and_parts, and_from, and_right, or_cases, or_left, or_right, ltb-false}
use Rattle.std.proofs.lemmas.List.{take-append-le}
use Rattle.std.proofs.lemmas.List.Folds.{list_any-append}
use Rattle.std.specs.List.{list_any}
use Rattle.dg_base.specs.declared.answer.Fault.{Fault}
use Rattle.dg_base.specs.Same.{same_fault, number_of_code}
use Rattle.dg_base.specs.declared.answer.Answer.{Answer}
use Rattle.dg_base.specs.declared.schema.ArgVal.{ArgVal}
use Rattle.dg_base.specs.Value.{faults_of, faults_of_arg, faults_of_args, distinct_faults, max_faults}
use Rattle.dg_answer.specs.Kept.{keep_one, keep_all}

pub keep_further : (ks xs ys : List Fault) → keep_all ks (xs ++ ys) ≡ keep_all (keep_all ks xs) ys
keep_further ks [] ys = refl
keep_further ks (x ∷ xs) ys = keep_further (keep_one ks x) xs ys

abbrev is_absent : List Fault → Fault → Bool
is_absent ks h = not (list_any (λ k. same_fault k h) ks)

same_fault-trans : (a b c : Fault) → same_fault a b ≡ true → same_fault b c ≡ true → same_fault a c ≡ true
same_fault-trans a b c h k =
    let ab = and_parts _ _ h in
    let bc = and_parts _ _ k in
    let end_ab = and_parts _ _ ab.0 in
    let end_bc = and_parts _ _ bc.0 in
    and_from _ _ (and_from _ _
    (eq-eqb a.at.node.0 c.at.node.0 (eqb-true a.at.node.0 b.at.node.0 end_ab.0 ∙ eqb-true b.at.node.0 c.at.node.0 end_bc.0))
    (eq-eqb a.at.label.0 c.at.label.0 (eqb-true a.at.label.0 b.at.label.0 end_ab.1 ∙ eqb-true b.at.label.0 c.at.label.0 end_bc.1)))
    (eq-eqb (number_of_code a.code) (number_of_code c.code) (eqb-true (number_of_code a.code) (number_of_code b.code) ab.1 ∙ eqb-true (number_of_code b.code) (number_of_code c.code) bc.1))

among_same : (ks : List Fault) (f h : Fault) → same_fault f h ≡ true → list_any (λ k. same_fault k f) ks ≡ true → list_any (λ k. same_fault k h) ks ≡ true
among_same [] f h same among = absurd (true≢false (sym among))
among_same (k ∷ ks) f h same among =
    elim (or_cases (same_fault k f) (list_any (λ z. same_fault z f) ks) among) [
      | inl here ↦ or_left _ (list_any (λ z. same_fault z h) ks) (same_fault-trans k f h here same)
      | inr rest ↦ or_right (same_fault k h) _ (among_same ks f h same rest)
    ]

filter_both : (p q r : Fault → Bool) → ((h : Fault) → r h ≡ (q h && p h)) → (hs : List Fault) → filter r hs ≡ filter p (filter q hs)
filter_both p q r is [] = refl
filter_both p q r is (h ∷ hs) = by_tests (q h) (p h) refl refl (is h) (filter_both p q r is hs)
  where
    by_tests : (a b : Bool) → q h ≡ a → p h ≡ b → r h ≡ (a && b) → filter r hs ≡ filter p (filter q hs) → filter r (h ∷ hs) ≡ filter p (cond a (h ∷ filter q hs) (filter q hs))
    by_tests true true qa pb is rest = rw (is, pb) (ap (λ (z : List Fault). h ∷ z) rest)
    by_tests true false qa pb is rest = rw (is, pb) rest
    by_tests false b qa pb is rest = rw is rest

-- what is same as one that is there, is there
already : (ks : List Fault) (f : Fault) → list_any (λ k. same_fault k f) ks ≡ true → (h : Fault) → is_absent ks h ≡ (not (same_fault f h) && is_absent ks h)
already ks f among h = by_test (same_fault f h) refl
  where
    by_test : (b : Bool) → same_fault f h ≡ b → is_absent ks h ≡ (not b && is_absent ks h)
    by_test true same = ap not (among_same ks f h same among)
    by_test false same = refl

one_more : (ks : List Fault) (f h : Fault) → is_absent (ks ++ f ∷ []) h ≡ (not (same_fault f h) && is_absent ks h)
one_more ks f h = ap not (list_any-append (λ k. same_fault k h) ks (f ∷ [])) ∙ by_tests (list_any (λ k. same_fault k h) ks) (same_fault f h)
  where
    by_tests : (a b : Bool) → not (a || (b || false)) ≡ (not b && not a)
    by_tests true true = refl
    by_tests true false = refl
    by_tests false true = refl
    by_tests false false = refl

take_short : (ks hs : List Fault) → length ks ≡ max_faults → take max_faults (ks ++ hs) ≡ take max_faults ks
take_short ks hs full = take-append-le max_faults ks hs (omega (arith, full))

kept_from : (fs ks : List Fault) → length ks ≤ max_faults → keep_all ks fs ≡ take max_faults (ks ++ filter (is_absent ks) (distinct_faults fs))
kept_from [] ks few = sym (take_all max_faults ks few) ∙ ap (take max_faults) (sym (append-nil ks))
kept_from (f ∷ fs) ks few = by_tests (nat_lt (length ks) max_faults) (list_any (λ k. same_fault k f) ks) refl refl (kept_from fs)
  where
    by_tests : (a b : Bool) → nat_lt (length ks) max_faults ≡ a → list_any (λ k. same_fault k f) ks ≡ b →
        ((ls : List Fault) → length ls ≤ max_faults → keep_all ls fs ≡ take max_faults (ls ++ filter (is_absent ls) (distinct_faults fs))) →
        keep_all (cond (a && not b) (ks ++ f ∷ []) ks) fs ≡
        take max_faults (ks ++ cond (not b) (f ∷ filter (is_absent ks) (filter (λ h. not (same_fault f h)) (distinct_faults fs))) (filter (is_absent ks) (filter (λ h. not (same_fault f h)) (distinct_faults fs))))
    by_tests a true room there later =
        ap (λ b. keep_all (cond b (ks ++ f ∷ []) ks) fs) (and_right a false refl)
        ∙ later ks few
        ∙ ap (λ (z : List Fault). take max_faults (ks ++ z)) (filter_both (is_absent ks) (λ h. not (same_fault f h)) (is_absent ks) (already ks f there) (distinct_faults fs))
    by_tests true false room there later =
        let below : length ks < max_faults = ltb-true (length ks) max_faults room in
        let long : length (ks ++ f ∷ []) ≡ length ks + 1 = length-append ks (f ∷ []) in
        later (ks ++ f ∷ []) (omega (arith, below, long))
        ∙ ap (take max_faults) (append_assoc ks (f ∷ []) (filter (is_absent (ks ++ f ∷ [])) (distinct_faults fs)))
        ∙ ap (λ (z : List Fault). take max_faults (ks ++ f ∷ z)) (filter_both (is_absent ks) (λ h. not (same_fault f h)) (is_absent (ks ++ f ∷ [])) (one_more ks f) (distinct_faults fs))
    by_tests false false room there later =
        let above : max_faults ≤ length ks = ltb-false (length ks) max_faults room in
        let full : length ks ≡ max_faults = omega (arith, above, few) in
        later ks few ∙ take_short ks _ full ∙ sym (take_short ks _ full)

pub keep_kept : (fs : List Fault) → keep_all [] fs ≡ take max_faults (distinct_faults fs)
keep_kept fs = kept_from fs [] (omega arith) ∙ ap (take max_faults) (filter_all (distinct_faults fs))
  where
    filter_all : (hs : List Fault) → filter (λ h. true) hs ≡ hs
    filter_all [] = refl
    filter_all (h ∷ hs) = ap (λ (z : List Fault). h ∷ z) (filter_all hs)

-- one answer, or one argument, more
pub keep_answer : (ks new : List Fault) (as_ : List Answer) (i : ℕ) (a : Answer) → i < length as_ → a ≡ get_or as_ i a → new ≡ keep_all ks (faults_of a) →
    keep_all new (flat_map faults_of (drop (i + 1) as_)) ≡ keep_all ks (flat_map faults_of (drop i as_))
keep_answer ks new as_ i a below is kept =
    let split : drop i as_ ≡ a ∷ drop (i + 1) as_ =
    drop-cons as_ i a below ∙ ap (λ (z : Answer). z ∷ drop (suc i) as_) (sym is) ∙ ap (λ (j : ℕ). a ∷ drop j as_) (sym (add-one i)) in
    ap (λ (z : List Fault). keep_all z (flat_map faults_of (drop (i + 1) as_))) kept
    ∙ sym (keep_further ks (faults_of a) (flat_map faults_of (drop (i + 1) as_)))
    ∙ ap (λ (z : List Answer). keep_all ks (flat_map faults_of z)) (sym split)

pub keep_arg : (ks new : List Fault) (as_ : List ArgVal) (i : ℕ) (a : ArgVal) → i < length as_ → a ≡ get_or as_ i a → new ≡ keep_all ks (faults_of_arg a) →
    keep_all new (faults_of_args (drop (i + 1) as_)) ≡ keep_all ks (faults_of_args (drop i as_))
keep_arg ks new as_ i a below is kept =
    let split : drop i as_ ≡ a ∷ drop (i + 1) as_ =
    drop-cons as_ i a below ∙ ap (λ (z : ArgVal). z ∷ drop (suc i) as_) (sym is) ∙ ap (λ (j : ℕ). a ∷ drop j as_) (sym (add-one i)) in
    ap (λ (z : List Fault). keep_all z (faults_of_args (drop (i + 1) as_))) kept
    ∙ sym (keep_further ks (faults_of_arg a) (faults_of_args (drop (i + 1) as_)))
    ∙ ap (λ (z : List ArgVal). keep_all ks (faults_of_args z)) (sym split)
