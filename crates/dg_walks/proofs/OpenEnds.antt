-- The endpoints that are open in a walk: each once, one a dependency of the other, and none of them listed.
use Rattle.std.proofs.Common.{◌≡◌, ℕ, zero, suc, ◌+◌, ◌<◌, ◌≤◌, Bool, true, false, not, cond, ◌&&◌, ◌||◌, List, [], ◌∷◌, ◌++◌, filter, length, Contains, IsTrue, refl, sym, ap, ◌∙◌, subst, arith, true≢false}
use Rattle.std.proofs.lemmas.Bool.{and_parts, and_from, or_parts, or_from, or_left, or_right, not-true, not_from_true, not_from_false, false_from_ne_true}
use Rattle.dg_base.specs.declared.ids.Endpoint.{Endpoint}
use Rattle.dg_base.specs.Same.{same_end}
use Rattle.dg_base.specs.Order.{is_end_among}
use Rattle.dg_laws.proofs.Members.{Contains-head, Contains-tail}
use Rattle.dg_laws.proofs.Filters.{length_filter_le, filter_fewer}
use Rattle.dg_laws.proofs.Among.{among-push, same-swap}
use Rattle.dg_laws.proofs.Ends.{same_end-is, same_end-itself, ends_tell}
use Rattle.dg_laws.proofs.Endless.{IsWay}

-- each stands once
abbrev pub ends_once : List Endpoint → Bool
ends_once [] = true
ends_once (e ∷ es) = not (is_end_among es e) && ends_once es

pub ends_once-push : (es : List Endpoint) (d : Endpoint) → IsTrue (ends_once es) → is_end_among es d ≡ false → IsTrue (ends_once (es ++ d ∷ []))
ends_once-push [] d h new = refl
ends_once-push (e ∷ es) d h new =
    let both = and_parts (not (is_end_among es e)) (ends_once es) h in
    let apart = or_parts (same_end d e) (is_end_among es d) new in
    let here : is_end_among (es ++ d ∷ []) e ≡ false =
    among-push ends_tell es d e ∙ or_from (is_end_among es e) (same_end e d) (not-true _ both.0) (same-swap ends_tell e d ∙ apart.0)
    in
    and_from _ _ (not_from_false _ here) (ends_once-push es d both.1 apart.1)

pub ends_once-rest : (es fs : List Endpoint) → IsTrue (ends_once (es ++ fs)) → IsTrue (ends_once fs)
ends_once-rest [] fs h = h
ends_once-rest (e ∷ es) fs h = ends_once-rest es fs (and_parts (not (is_end_among (es ++ fs) e)) (ends_once (es ++ fs)) h).1

-- the endpoints of a list that aren't among others
unlisted : List Endpoint → List Endpoint → ℕ
unlisted es ps = length (filter (λ x. not (is_end_among ps x)) es)

neither : (a b : Bool) → not (a || b) ≡ true → not b ≡ true
neither true b h = absurd (true≢false (sym h))
neither false b h = h

fewer_unlisted : (es ps : List Endpoint) (p : Endpoint) → Contains es p → is_end_among ps p ≡ false → unlisted es (p ∷ ps) < unlisted es ps
unfolding unlisted
fewer_unlisted es ps p there new =
    filter_fewer (λ x. not (is_end_among (p ∷ ps) x)) (λ x. not (is_end_among ps x)) (λ x. neither (same_end x p) (is_end_among ps x)) es p there
    (not_from_true _ (or_left (same_end p p) (is_end_among ps p) (same_end-itself p))) (not_from_false _ new)

most : (es ps : List Endpoint) → IsTrue (ends_once ps) → ((p : Endpoint) → Contains ps p → Contains es p) → length ps + unlisted es ps ≤ length es
unfolding unlisted
most es [] once inside = let le = length_filter_le (λ x. not (is_end_among [] x)) es in omega (arith, le)
most es (p ∷ ps) once inside =
    let both = and_parts (not (is_end_among ps p)) (ends_once ps) once in
    let rest = most es ps both.1 (λ x c. inside x (Contains-tail p ps x c)) in
    let fewer = fewer_unlisted es ps p (inside p (Contains-head p ps)) (not-true _ both.0) in
    omega (arith, rest, fewer)

-- of a list's endpoints, each once, there are no more than it is long
pub at_most : (es ps : List Endpoint) → IsTrue (ends_once ps) → ((p : Endpoint) → Contains ps p → Contains es p) → length ps ≤ length es
at_most es ps once inside = let le = most es ps once inside in omega (arith, le)

-- a way that goes on
pub way-push : (follow : Endpoint → List Endpoint) (es : List Endpoint) (e d : Endpoint) → IsWay follow (es ++ e ∷ []) → Contains (follow e) d → IsWay follow ((es ++ e ∷ []) ++ d ∷ [])
way-push follow [] e d w c = (c, tt)
way-push follow (x ∷ []) e d w c = (w.0, (c, tt))
way-push follow (x ∷ y ∷ es) e d w c = (w.0, way-push follow (y ∷ es) e d w.1 c)

-- a way to an earlier end
pub way-begins : (follow : Endpoint → List Endpoint) (es : List Endpoint) (e : Endpoint) → IsWay follow (es ++ e ∷ []) → IsWay follow es
way-begins follow [] e w = tt
way-begins follow (x ∷ []) e w = tt
way-begins follow (x ∷ y ∷ es) e w = (w.0, way-begins follow (y ∷ es) e w.1)

-- ---- open endpoints and finished ones

-- none of these stands among those
abbrev pub AreApart : List Endpoint → List Endpoint → Type 0
AreApart es rs = (x : Endpoint) → is_end_among es x ≡ true → is_end_among rs x ≡ false

pub ends_once-last : (es : List Endpoint) (e : Endpoint) → IsTrue (ends_once (es ++ e ∷ [])) → is_end_among es e ≡ false
ends_once-last [] e h = refl
ends_once-last (x ∷ es) e h =
    let both = and_parts (not (is_end_among (es ++ e ∷ []) x)) (ends_once (es ++ e ∷ [])) h in
    let apart = or_parts (is_end_among es x) (same_end x e) (sym (among-push ends_tell es e x) ∙ not-true _ both.0) in
    or_from (same_end e x) (is_end_among es e) (same-swap ends_tell e x ∙ apart.1) (ends_once-last es e both.1)

pub apart-push : (es rs : List Endpoint) (d : Endpoint) → AreApart es rs → is_end_among rs d ≡ false → AreApart (es ++ d ∷ []) rs
apart-push es rs d apart new x h = by_case (is_end_among es x) refl (same_end x d) refl (sym (among-push ends_tell es d x) ∙ h)
  where
    by_case : (b : Bool) → is_end_among es x ≡ b → (c : Bool) → same_end x d ≡ c → (b || c) ≡ true → is_end_among rs x ≡ false
    by_case true hb c hc k = apart x hb
    by_case false hb true hc k = ap (is_end_among rs) (same_end-is x d hc) ∙ new
    by_case false hb false hc k = absurd (true≢false (sym k))

pub apart-done : (es rs : List Endpoint) (e : Endpoint) → IsTrue (ends_once (es ++ e ∷ [])) → AreApart (es ++ e ∷ []) rs → AreApart es (rs ++ e ∷ [])
apart-done es rs e once apart x h =
    among-push ends_tell rs e x
    ∙ or_from (is_end_among rs x) (same_end x e) (apart x (among-push ends_tell es e x ∙ or_left (is_end_among es x) (same_end x e) h))
    (false_from_ne_true (same_end x e) (λ same. true≢false (sym h ∙ ap (is_end_among es) (same_end-is x e same) ∙ ends_once-last es e once)))
