-- Endpoints that stand once in a list, and their filters.
use Rattle.std.proofs.Common.{◌≡◌, ℕ, suc, ◌+◌, ◌<◌, ◌≤◌, Bool, true, false, not, cond, ◌&&◌, ◌||◌, List, [], ◌∷◌, filter, length, get_or, drop, IsTrue, refl, sym, ap, ◌∙◌, arith, true≢false}
use Rattle.std.proofs.lemmas.Bool.{and_parts, and_from, or_parts, or_from, not-true, not_from_false}
use Rattle.std.proofs.lemmas.List.{at_drop_all, at_drop_more}
use Rattle.std.proofs.lemmas.List.Elements.{filter_agree}
use Rattle.std.proofs.lemmas.List.Kept.{AllPairs-filter}
use Rattle.std.specs.List.{list_all}
use Rattle.dg_base.specs.declared.ids.Endpoint.{Endpoint}
use Rattle.dg_base.specs.Same.{same_end}
use Rattle.dg_base.specs.Order.{is_end_among, is_end_before, ends_rise}
use Rattle.dg_laws.proofs.Among.{same-swap, among-filter}
use Rattle.dg_laws.proofs.Orders.{AllPairs-from_rise, rise-from_AllPairs}
use Rattle.dg_laws.proofs.Ends.{same_end-is, same_end-itself, ends_tell, ends_rank}
use Rattle.dg_cache.specs.Entries.{ends_once}

abbrev pub outside_one : Endpoint → Endpoint → Bool
outside_one e x = not (same_end e x)

pub filter_twice : {X : Type 0} (p q : X → Bool) (xs : List X) → filter p (filter q xs) ≡ filter (λ x. q x && p x) xs
filter_twice p q [] = refl
filter_twice {X} p q (x ∷ xs) = by_test (q x) (filter_twice p q xs)
  where
    by_test : (a : Bool) → filter p (filter q xs) ≡ filter (λ z. q z && p z) xs →
        filter p (cond a (x ∷ filter q xs) (filter q xs)) ≡ cond (a && p x) (x ∷ filter (λ z. q z && p z) xs) (filter (λ z. q z && p z) xs)
    by_test true rest = ap (λ (z : List X). cond (p x) (x ∷ z) z) rest
    by_test false rest = rest

pub filter_none : {X : Type 0} (p : X → Bool) (xs : List X) → ((x : X) → p x ≡ false) → filter p xs ≡ []
filter_none p [] h = refl
filter_none p (x ∷ xs) h = ap (λ b. cond b (x ∷ filter p xs) (filter p xs)) (h x) ∙ filter_none p xs h

-- an endpoint that isn't among some is none that its test passes
pub filter_absent : (e : Endpoint) (ends : List Endpoint) → is_end_among ends e ≡ false → filter (same_end e) ends ≡ []
filter_absent e [] h = refl
filter_absent e (x ∷ ends) h =
    let both = or_parts (same_end e x) (is_end_among ends e) h in
    ap (λ b. cond b (x ∷ filter (same_end e) ends) (filter (same_end e) ends)) both.0 ∙ filter_absent e ends both.1

-- one that stands once is all that its test passes
pub filter_once : (e : Endpoint) (ends : List Endpoint) → IsTrue (ends_once ends) → filter (same_end e) ends ≡ cond (is_end_among ends e) (e ∷ []) []
filter_once e [] h = refl
filter_once e (x ∷ ends) h = by_test (same_end e x) refl (and_parts (not (is_end_among ends x)) (ends_once ends) h) (filter_once e ends)
  where
    by_test : (b : Bool) → same_end e x ≡ b → (not (is_end_among ends x) ≡ true) × (ends_once ends ≡ true) →
        (IsTrue (ends_once ends) → filter (same_end e) ends ≡ cond (is_end_among ends e) (e ∷ []) []) →
        cond b (x ∷ filter (same_end e) ends) (filter (same_end e) ends) ≡ cond (b || is_end_among ends e) (e ∷ []) []
    by_test true is both rest =
        let at : e ≡ x = same_end-is e x is in
        let absent : is_end_among ends e ≡ false = ap (is_end_among ends) at ∙ not-true (is_end_among ends x) both.0 in
        ap (λ (z : List Endpoint). x ∷ z) (filter_absent e ends absent) ∙ ap (λ (z : Endpoint). z ∷ []) (sym at)
    by_test false is both rest = rest both.1

pub once_head : (e : Endpoint) (ends : List Endpoint) → IsTrue (ends_once (e ∷ ends)) → is_end_among ends e ≡ false
once_head e ends h = not-true (is_end_among ends e) (and_parts (not (is_end_among ends e)) (ends_once ends) h).0

pub once_tail : (e : Endpoint) (ends : List Endpoint) → IsTrue (ends_once (e ∷ ends)) → IsTrue (ends_once ends)
once_tail e ends h = (and_parts (not (is_end_among ends e)) (ends_once ends) h).1

pub once_cons : (e : Endpoint) (ends : List Endpoint) → is_end_among ends e ≡ false → IsTrue (ends_once ends) → IsTrue (ends_once (e ∷ ends))
once_cons e ends h k = and_from (not (is_end_among ends e)) (ends_once ends) (not_from_false (is_end_among ends e) h) k

pub once_filter : (p : Endpoint → Bool) (ends : List Endpoint) → IsTrue (ends_once ends) → IsTrue (ends_once (filter p ends))
once_filter p [] h = refl
once_filter p (e ∷ ends) h = by_test (p e) (once_filter p ends (once_tail e ends h))
  where
    by_test : (b : Bool) → IsTrue (ends_once (filter p ends)) → IsTrue (ends_once (cond b (e ∷ filter p ends) (filter p ends)))
    by_test true rest =
        let absent : is_end_among (filter p ends) e ≡ false = among-filter ends_tell p ends e ∙ ap (λ b. b && p e) (once_head e ends h) in
        once_cons e (filter p ends) absent rest
    by_test false rest = rest

-- an endpoint isn't among the others
pub others_absent : (e : Endpoint) (ends : List Endpoint) → is_end_among (filter (outside_one e) ends) e ≡ false
others_absent e ends =
    among-filter ends_tell (outside_one e) ends e ∙ by_test (is_end_among ends e) (same_end e e) (same_end-itself e)
  where
    by_test : (a b : Bool) → b ≡ true → (a && not b) ≡ false
    by_test true true h = refl
    by_test true false h = sym h
    by_test false b h = refl

-- put to the front
pub once_front : (e : Endpoint) (ends : List Endpoint) → IsTrue (ends_once ends) → IsTrue (ends_once (e ∷ filter (outside_one e) ends))
once_front e ends h = once_cons e (filter (outside_one e) ends) (others_absent e ends) (once_filter (outside_one e) ends h)

-- nothing is left out where the endpoint isn't there
pub others_all : (e : Endpoint) (ends : List Endpoint) → is_end_among ends e ≡ false → filter (outside_one e) ends ≡ ends
others_all e [] h = refl
others_all e (x ∷ ends) h =
    let both = or_parts (same_end e x) (is_end_among ends e) h in
    ap (λ b. cond (not b) (x ∷ filter (outside_one e) ends) (filter (outside_one e) ends)) both.0 ∙ ap (λ (z : List Endpoint). x ∷ z) (others_all e ends both.1)

-- fewer are left where it is there
pub others_fewer : (e : Endpoint) (ends : List Endpoint) → is_end_among ends e ≡ true → length (filter (outside_one e) ends) < length ends
others_fewer e [] h = absurd (true≢false (sym h))
others_fewer e (x ∷ ends) h = by_test (same_end e x) h (others_fewer e ends) (others_most e ends)
  where
    others_most : (a : Endpoint) (xs : List Endpoint) → length (filter (outside_one a) xs) ≤ length xs
    others_most a [] = omega arith
    others_most a (y ∷ xs) =
        let rest = others_most a xs in
        elim (same_end a y) as (λ b. length (cond (not b) (y ∷ filter (outside_one a) xs) (filter (outside_one a) xs)) ≤ suc (length xs)) [ true ↦ omega (arith, rest) | false ↦ omega (arith, rest) ]

    by_test : (b : Bool) → (b || is_end_among ends e) ≡ true → (is_end_among ends e ≡ true → length (filter (outside_one e) ends) < length ends) →
        length (filter (outside_one e) ends) ≤ length ends →
        length (cond (not b) (x ∷ filter (outside_one e) ends) (filter (outside_one e) ends)) < suc (length ends)
    by_test true k rest most = omega (arith, most)
    by_test false k rest most = let r = rest k in omega (arith, r)

-- ---- in endpoint order

pub before_absent : (e : Endpoint) (ends : List Endpoint) → list_all (is_end_before e) ends ≡ true → is_end_among ends e ≡ false
before_absent e [] h = refl
before_absent e (x ∷ ends) h =
    let both = and_parts (is_end_before e x) (list_all (is_end_before e) ends) h in
    or_from (same_end e x) (is_end_among ends e) (ends_rank.apart e x both.0) (before_absent e ends both.1)

pub rise_once : (ends : List Endpoint) → IsTrue (ends_rise ends) → IsTrue (ends_once ends)
rise_once [] h = refl
rise_once (e ∷ ends) h =
    let both = and_parts (list_all (is_end_before e) ends) (ends_rise ends) h in
    once_cons e ends (before_absent e ends both.0) (rise_once ends both.1)

pub rise_filter : (p : Endpoint → Bool) (ends : List Endpoint) → IsTrue (ends_rise ends) → IsTrue (ends_rise (filter p ends))
rise_filter p ends h =
    rise-from_AllPairs is_end_before (filter p ends) (AllPairs-filter (λ a b. is_end_before a b ≡ true) p ends (AllPairs-from_rise is_end_before ends h))

-- ---- outside some endpoints, one after the other

pub neither : (a b : Bool) → (not a && not b) ≡ not (a || b)
neither true b = refl
neither false b = refl

pub outside-one : (d : Endpoint) (ds ends : List Endpoint) → filter (λ e. not (is_end_among ds e)) (filter (outside_one d) ends) ≡ filter (λ e. not (is_end_among (d ∷ ds) e)) ends
outside-one d ds ends =
    filter_twice (λ e. not (is_end_among ds e)) (outside_one d) ends
    ∙ filter_agree (λ e. outside_one d e && not (is_end_among ds e)) (λ e. not (is_end_among (d ∷ ds) e))
    (λ e. ap (λ b. not b && not (is_end_among ds e)) (same-swap ends_tell d e) ∙ neither (same_end e d) (is_end_among ds e)) ends

pub outside-none : (ends : List Endpoint) → filter (λ e. not (is_end_among [] e)) ends ≡ ends
outside-none [] = refl
outside-none (e ∷ ends) = ap (λ (z : List Endpoint). e ∷ z) (outside-none ends)

pub outside-next : (gone : List Endpoint) (i : ℕ) (d : Endpoint) (ends : List Endpoint) → i < length gone →
    filter (λ e. not (is_end_among (drop (i + 1) gone) e)) (filter (outside_one (get_or gone i d)) ends) ≡ filter (λ e. not (is_end_among (drop i gone) e)) ends
outside-next gone i d ends inside =
    outside-one (get_or gone i d) (drop (i + 1) gone) ends ∙ sym (at_drop_more (λ ds. filter (λ e. not (is_end_among ds e)) ends) gone i d inside)

pub outside-end : (gone : List Endpoint) (i : ℕ) (ends : List Endpoint) → length gone ≤ i → filter (λ e. not (is_end_among (drop i gone) e)) ends ≡ ends
outside-end gone i ends all = at_drop_all (λ ds. filter (λ e. not (is_end_among ds e)) ends) gone i all ∙ outside-none ends
