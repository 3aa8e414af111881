-- What is found of endpoints in filters of entries, and in the entries of a list of endpoints.
use Rattle.std.proofs.Common.{◌≡◌, ℕ, zero, suc, ◌+◌, ◌<◌, ◌≤◌, Bool, true, false, not, cond, ◌&&◌, ◌||◌, List, [], ◌∷◌, ◌++◌, filter, length, get_or, slice_get, take, drop, is_some, Some, None, IsTrue, refl, sym, ap, ◌∙◌, arith, true≢false}
use Rattle.std.proofs.lemmas.Bool.{and_parts, and_from, or_parts, or_left, or_right, not_from_false, not_from_true, false_from_ne_true}
use Rattle.std.proofs.lemmas.List.{append-nil, at_drop_all, at_drop_more, map-append}
use Rattle.std.proofs.lemmas.List.Elements.{filter_agree, filter-append}
use Rattle.dg_base.specs.declared.ids.Endpoint.{Endpoint}
use Rattle.dg_base.specs.Same.{same_end}
use Rattle.dg_base.specs.Order.{is_end_among}
use Rattle.dg_laws.proofs.Among.{same_answer, same-swap}
use Rattle.dg_laws.proofs.Ends.{same_end-is, same_end-itself, ends_tell}
use Rattle.dg_cache.specs.declared.entry.Entry.{Entry}
use Rattle.dg_cache.specs.Entries.{ends_of, ends_once, is_at, entry_of, others, without, to_front, value_in, entries_at}
use Rattle.dg_cache.proofs.Ends.{outside_one, filter_twice, filter_none, filter_once, once_head, once_tail, neither}

-- the entries whose endpoints pass a test
abbrev pub kept : (Endpoint → Bool) → List Entry → List Entry
kept p es = filter (λ x. p x.at) es

pub ends-kept : (p : Endpoint → Bool) (es : List Entry) → ends_of (kept p es) ≡ filter p (ends_of es)
ends-kept p [] = refl
ends-kept p (x ∷ es) =
    let rest = ends-kept p es in
    elim (p x.at) as (λ b. ends_of (cond b (x ∷ kept p es) (kept p es)) ≡ cond b (x.at ∷ filter p (ends_of es)) (filter p (ends_of es)))
    [ true ↦ ap (λ (z : List Endpoint). x.at ∷ z) rest | false ↦ rest ]

passes_too : (p : Endpoint → Bool) (e : Endpoint) (b : Bool) → p e ≡ b → (x : Entry) → same_end e x.at ≡ true → p x.at ≡ b
passes_too p e b h x is = sym (ap p (same_end-is e x.at is)) ∙ h

pub entry_kept-in : (p : Endpoint → Bool) (e : Endpoint) (es : List Entry) → p e ≡ true → entry_of e (kept p es) ≡ entry_of e es
entry_kept-in p e es h =
    filter_twice (is_at e) (λ (x : Entry). p x.at) es
    ∙ filter_agree (λ (x : Entry). p x.at && same_end e x.at) (is_at e) (λ x. same_answer (p x.at && same_end e x.at) (same_end e x.at)
    (λ k. (and_parts (p x.at) (same_end e x.at) k).1) (λ k. and_from (p x.at) (same_end e x.at) (passes_too p e true h x k) k)) es

pub entry_kept-out : (p : Endpoint → Bool) (e : Endpoint) (es : List Entry) → p e ≡ false → entry_of e (kept p es) ≡ []
entry_kept-out p e es h =
    filter_twice (is_at e) (λ (x : Entry). p x.at) es
    ∙ filter_none (λ (x : Entry). p x.at && same_end e x.at) es (λ x. false_from_ne_true (p x.at && same_end e x.at)
    (λ k. let both = and_parts (p x.at) (same_end e x.at) k in true≢false (sym both.0 ∙ passes_too p e false h x both.1)))

kept_entry-in : (p : Endpoint → Bool) (e : Endpoint) (es : List Entry) → p e ≡ true → kept p (entry_of e es) ≡ entry_of e es
kept_entry-in p e es h =
    filter_twice (λ (x : Entry). p x.at) (is_at e) es
    ∙ filter_agree (λ (x : Entry). same_end e x.at && p x.at) (is_at e) (λ x. same_answer (same_end e x.at && p x.at) (same_end e x.at)
    (λ k. (and_parts (same_end e x.at) (p x.at) k).0) (λ k. and_from (same_end e x.at) (p x.at) k (passes_too p e true h x k))) es

kept_entry-out : (p : Endpoint → Bool) (e : Endpoint) (es : List Entry) → p e ≡ false → kept p (entry_of e es) ≡ []
kept_entry-out p e es h =
    filter_twice (λ (x : Entry). p x.at) (is_at e) es
    ∙ filter_none (λ (x : Entry). same_end e x.at && p x.at) es (λ x. false_from_ne_true (same_end e x.at && p x.at)
    (λ k. let both = and_parts (same_end e x.at) (p x.at) k in true≢false (sym both.1 ∙ passes_too p e false h x both.0)))

-- what is kept of the entries of some endpoints
pub kept-at : (p : Endpoint → Bool) (ends : List Endpoint) (es : List Entry) → kept p (entries_at ends es) ≡ entries_at (filter p ends) es
kept-at p [] es = refl
kept-at p (e ∷ ends) es = filter-append (λ (x : Entry). p x.at) (entry_of e es) (entries_at ends es) ∙ by_test (p e) refl (kept-at p ends es)
  where
    by_test : (b : Bool) → p e ≡ b → kept p (entries_at ends es) ≡ entries_at (filter p ends) es →
        kept p (entry_of e es) ++ kept p (entries_at ends es) ≡ entries_at (cond b (e ∷ filter p ends) (filter p ends)) es
    by_test true is rest = ap (λ (z : List Entry). z ++ kept p (entries_at ends es)) (kept_entry-in p e es is) ∙ ap (λ (z : List Entry). entry_of e es ++ z) rest
    by_test false is rest = ap (λ (z : List Entry). z ++ kept p (entries_at ends es)) (kept_entry-out p e es is) ∙ rest

-- only what is found of these endpoints counts
pub at_agree : (ends : List Endpoint) (es fs : List Entry) → ((e : Endpoint) → IsTrue (is_end_among ends e) → entry_of e es ≡ entry_of e fs) → entries_at ends es ≡ entries_at ends fs
at_agree [] es fs h = refl
at_agree (e ∷ ends) es fs h =
    ap (λ (z : List Entry). z ++ entries_at ends es) (h e (or_left (same_end e e) (is_end_among ends e) (same_end-itself e)))
    ∙ ap (λ (z : List Entry). entry_of e fs ++ z) (at_agree ends es fs (λ x k. h x (or_right (same_end x e) (is_end_among ends x) k)))

pub entry_absent : (e : Endpoint) (es : List Entry) → is_end_among (ends_of es) e ≡ false → entry_of e es ≡ []
entry_absent e [] h = refl
entry_absent e (x ∷ es) h =
    let both = or_parts (same_end e x.at) (is_end_among (ends_of es) e) h in
    ap (λ b. cond b (x ∷ entry_of e es) (entry_of e es)) both.0 ∙ entry_absent e es both.1

-- what is found of an endpoint among the entries of some
pub entry-at : (e : Endpoint) (ends : List Endpoint) (es : List Entry) → IsTrue (ends_once ends) → entry_of e (entries_at ends es) ≡ cond (is_end_among ends e) (entry_of e es) []
entry-at e ends es h = kept-at (same_end e) ends es ∙ ap (λ z. entries_at z es) (filter_once e ends h) ∙ by_test (is_end_among ends e)
  where
    by_test : (b : Bool) → entries_at (cond b (e ∷ []) []) es ≡ cond b (entry_of e es) []
    by_test true = append-nil (entry_of e es)
    by_test false = refl

pub entry-at_all : (e : Endpoint) (ends : List Endpoint) (es : List Entry) → IsTrue (ends_once ends) → is_end_among ends e ≡ is_end_among (ends_of es) e →
    entry_of e (entries_at ends es) ≡ entry_of e es
entry-at_all e ends es h same = entry-at e ends es h ∙ by_test (is_end_among ends e) same
  where
    by_test : (b : Bool) → b ≡ is_end_among (ends_of es) e → cond b (entry_of e es) [] ≡ entry_of e es
    by_test true k = refl
    by_test false k = sym (entry_absent e es (sym k))

-- the entries of its own endpoints are the list
pub own_entries : (es : List Entry) → IsTrue (ends_once (ends_of es)) → entries_at (ends_of es) es ≡ es
own_entries [] h = refl
own_entries (x ∷ es) h =
    let absent = once_head x.at (ends_of es) h in
    let first : entry_of x.at (x ∷ es) ≡ x ∷ [] =
    ap (λ b. cond b (x ∷ entry_of x.at es) (entry_of x.at es)) (same_end-itself x.at) ∙ ap (λ (z : List Entry). x ∷ z) (entry_absent x.at es absent)
    in
    ap (λ (z : List Entry). z ++ entries_at (ends_of es) (x ∷ es)) first
    ∙ ap (λ (z : List Entry). x ∷ z) (at_agree (ends_of es) (x ∷ es) es (λ e k. later e k absent) ∙ own_entries es (once_tail x.at (ends_of es) h))
  where
    later : (e : Endpoint) → is_end_among (ends_of es) e ≡ true → is_end_among (ends_of es) x.at ≡ false → entry_of e (x ∷ es) ≡ entry_of e es
    later e k absent =
        ap (λ b. cond b (x ∷ entry_of e es) (entry_of e es))
        (false_from_ne_true (same_end e x.at) (λ is. true≢false (sym k ∙ ap (is_end_among (ends_of es)) (same_end-is e x.at is) ∙ absent)))

-- the endpoints of the entries of some that are there
pub ends-at : (ends : List Endpoint) (es : List Entry) → IsTrue (ends_once (ends_of es)) → ((e : Endpoint) → IsTrue (is_end_among ends e) → IsTrue (is_end_among (ends_of es) e)) →
    ends_of (entries_at ends es) ≡ ends
ends-at [] es once there = refl
ends-at (e ∷ ends) es once there =
    let here = there e (or_left (same_end e e) (is_end_among ends e) (same_end-itself e)) in
    let one : ends_of (entry_of e es) ≡ e ∷ [] = ends-kept (same_end e) es ∙ filter_once e (ends_of es) once ∙ ap (λ b. cond b (e ∷ []) []) here in
    map-append (λ (x : Entry). x.at) (entry_of e es) (entries_at ends es)
    ∙ ap (λ (z : List Endpoint). z ++ ends_of (entries_at ends es)) one
    ∙ ap (λ (z : List Endpoint). e ∷ z) (ends-at ends es once (λ x k. there x (or_right (same_end x e) (is_end_among ends x) k)))

abbrev has : List Entry → Bool
has [] = false
has (x ∷ es) = true

among_has : (e : Endpoint) (es : List Entry) → is_end_among (ends_of es) e ≡ has (entry_of e es)
among_has e [] = refl
among_has e (x ∷ es) =
    let rest = among_has e es in
    elim (same_end e x.at) as (λ b. (b || is_end_among (ends_of es) e) ≡ has (cond b (x ∷ entry_of e es) (entry_of e es))) [ true ↦ refl | false ↦ rest ]

-- the same is found, so the same is there
pub among_agree : (es fs : List Entry) → ((e : Endpoint) → entry_of e es ≡ entry_of e fs) → (e : Endpoint) → is_end_among (ends_of es) e ≡ is_end_among (ends_of fs) e
among_agree es fs h e = among_has e es ∙ ap has (h e) ∙ sym (among_has e fs)

-- ---- put to the front

pub entry_front : (e : Endpoint) (es : List Entry) (x : Endpoint) → entry_of x (to_front e es) ≡ entry_of x es
entry_front e es x = filter-append (is_at x) (entry_of e es) (others e es) ∙ by_test (same_end e x) refl
  where
    by_test : (b : Bool) → same_end e x ≡ b → entry_of x (entry_of e es) ++ entry_of x (others e es) ≡ entry_of x es
    by_test true is =
        ap (λ (z : List Entry). z ++ entry_of x (others e es)) (entry_kept-in (same_end e) x es is)
        ∙ ap (λ (z : List Entry). entry_of x es ++ z) (entry_kept-out (outside_one e) x es (not_from_true (same_end e x) is)) ∙ append-nil (entry_of x es)
    by_test false is =
        ap (λ (z : List Entry). z ++ entry_of x (others e es)) (entry_kept-out (same_end e) x es is)
        ∙ entry_kept-in (outside_one e) x es (not_from_false (same_end e x) is)

-- where it is there, its endpoint comes first
pub ends_front : (e : Endpoint) (es : List Entry) → IsTrue (ends_once (ends_of es)) → is_end_among (ends_of es) e ≡ true → ends_of (to_front e es) ≡ e ∷ filter (outside_one e) (ends_of es)
ends_front e es once there =
    let one : ends_of (entry_of e es) ≡ e ∷ [] = ends-kept (same_end e) es ∙ filter_once e (ends_of es) once ∙ ap (λ b. cond b (e ∷ []) []) there in
    map-append (λ (x : Entry). x.at) (entry_of e es) (others e es)
    ∙ ap (λ (z : List Endpoint). z ++ ends_of (others e es)) one
    ∙ ap (λ (z : List Endpoint). e ∷ z) (ends-kept (outside_one e) es)

pub others_same : (e : Endpoint) (es : List Entry) → is_end_among (ends_of es) e ≡ false → others e es ≡ es
others_same e [] h = refl
others_same e (x ∷ es) h =
    let both = or_parts (same_end e x.at) (is_end_among (ends_of es) e) h in
    ap (λ b. cond (not b) (x ∷ others e es) (others e es)) both.0 ∙ ap (λ (z : List Entry). x ∷ z) (others_same e es both.1)

pub front_absent : (e : Endpoint) (es : List Entry) → is_end_among (ends_of es) e ≡ false → to_front e es ≡ es
front_absent e es h = ap (λ (z : List Entry). z ++ others e es) (entry_absent e es h) ∙ others_same e es h

-- where it has no value, it isn't there
pub value_among : (e : Endpoint) (es : List Entry) → is_some (value_in es e) ≡ is_end_among (ends_of es) e
value_among e [] = refl
value_among e (x ∷ es) =
    let rest = value_among e es in
    elim (same_end e x.at) as (λ b. is_some (cond b (Some x.value) (value_in es e)) ≡ (b || is_end_among (ends_of es) e)) [ true ↦ refl | false ↦ rest ]

-- ---- the entries outside some endpoints, one after the other

pub without-one : (d : Endpoint) (ds : List Endpoint) (es : List Entry) → without ds (others d es) ≡ without (d ∷ ds) es
without-one d ds es =
    filter_twice (λ (x : Entry). not (is_end_among ds x.at)) (λ (x : Entry). not (same_end d x.at)) es
    ∙ filter_agree (λ (x : Entry). not (same_end d x.at) && not (is_end_among ds x.at)) (λ (x : Entry). not (same_end x.at d || is_end_among ds x.at))
    (λ x. ap (λ b. not b && not (is_end_among ds x.at)) (same-swap ends_tell d x.at) ∙ neither (same_end x.at d) (is_end_among ds x.at)) es

pub without-none : (es : List Entry) → without [] es ≡ es
without-none [] = refl
without-none (x ∷ es) = ap (λ (z : List Entry). x ∷ z) (without-none es)

pub without-next : (gone : List Endpoint) (i : ℕ) (d : Endpoint) (es : List Entry) → i < length gone →
    without (drop (i + 1) gone) (others (get_or gone i d) es) ≡ without (drop i gone) es
without-next gone i d es inside = without-one (get_or gone i d) (drop (i + 1) gone) es ∙ sym (at_drop_more (λ ds. without ds es) gone i d inside)

pub without-end : (gone : List Endpoint) (i : ℕ) (es : List Entry) → length gone ≤ i → without (drop i gone) es ≡ es
without-end gone i es all = at_drop_all (λ ds. without ds es) gone i all ∙ without-none es

-- ---- the first entries, one more

pub taken_one : (es : List Entry) (n : ℕ) (x : Entry) → slice_get es n ≡ Some x → take (n + 1) es ≡ take n es ++ x ∷ []
taken_one es n x h = let more : n + 1 ≡ suc n = omega arith in ap (λ k. take k es) more ∙ next es n h
  where
    next : (fs : List Entry) (k : ℕ) → slice_get fs k ≡ Some x → take (suc k) fs ≡ take k fs ++ x ∷ []
    next [] k is = let no : ⊥ = cc in absurd no
    next (y ∷ fs) zero is = let same : y ≡ x = cc in ap (λ (z : Entry). z ∷ []) same
    next (y ∷ fs) (suc k) is = ap (λ (z : List Entry). y ∷ z) (next fs k is)

pub taken_all : (es : List Entry) (n : ℕ) → slice_get es n ≡ None → take (n + 1) es ≡ take n es
taken_all es n h = let more : n + 1 ≡ suc n = omega arith in ap (λ k. take k es) more ∙ next es n h
  where
    next : (fs : List Entry) (k : ℕ) → slice_get fs k ≡ None → take (suc k) fs ≡ take k fs
    next [] zero is = refl
    next [] (suc k) is = refl
    next (y ∷ fs) zero is = let no : ⊥ = cc in absurd no
    next (y ∷ fs) (suc k) is = ap (λ (z : List Entry). y ∷ z) (next fs k is)
