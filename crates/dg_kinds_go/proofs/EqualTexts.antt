-- Whether two texts of a list are equal, found by going along it with the texts that were seen.
use Rattle.std.proofs.Common.{◌≡◌, ℕ, List, [], ◌∷◌, Bool, true, false, cond, not, ◌||◌, Bor, BTreeSet, map, refl, sym, ap, ◌∙◌, true≢false}
use Rattle.std.specs.List.{list_any}
use Rattle.std.specs.BTreeSet.{contains_by}
use Rattle.std.specs.Cmp.Lexicographic.{slice_cmp}
use Rattle.std.specs.Ordering.{nat_cmp}
use Rattle.std.specs.Str.{bytes_eq}
use Rattle.dg_kinds_go.specs.Objects.{has_equals}

abbrev pub texts_of : List (Bor (List ℕ)) → List (List ℕ)
texts_of ts = map (λ t. t.now) ts

abbrev pub seen_in : BTreeSet (Bor (List ℕ)) → List ℕ → Bool
seen_in seen q = contains_by (λ k. slice_cmp nat_cmp q k.now) seen

-- whether one of the texts was seen, or stands twice among them
abbrev pub repeats : (List ℕ → Bool) → List (List ℕ) → Bool
repeats seen [] = false
repeats seen (t ∷ ts) = seen t || repeats (λ q. cond (bytes_eq t q) true (seen q)) ts

either : (a b c d : Bool) → (cond a true b || (c || d)) ≡ ((a || c) || (b || d))
either true b c d = refl
either false true true d = refl
either false true false d = refl
either false false c d = refl

any_either : (p r : List ℕ → Bool) (ts : List (List ℕ)) → list_any (λ q. cond (p q) true (r q)) ts ≡ (list_any p ts || list_any r ts)
any_either p r [] = refl
any_either p r (t ∷ ts) = ap (λ b. cond (p t) true (r t) || b) (any_either p r ts) ∙ either (p t) (r t) (list_any p ts) (list_any r ts)

in_order : (a b c d : Bool) → (a || ((c || b) || d)) ≡ ((a || b) || (c || d))
in_order true b c d = refl
in_order false true true d = refl
in_order false true false d = refl
in_order false false true d = refl
in_order false false false d = refl

along : (seen : List ℕ → Bool) (ts : List (List ℕ)) → repeats seen ts ≡ (list_any seen ts || has_equals ts)
along seen [] = refl
along seen (t ∷ ts) =
    ap (λ b. seen t || b) (along (λ q. cond (bytes_eq t q) true (seen q)) ts ∙ ap (λ b. b || has_equals ts) (any_either (bytes_eq t) seen ts))
    ∙ in_order (seen t) (list_any seen ts) (list_any (bytes_eq t) ts) (has_equals ts)

none_seen : (ts : List (List ℕ)) → list_any (λ q. false) ts ≡ false
none_seen [] = refl
none_seen (t ∷ ts) = none_seen ts

pub was_seen : (a b : Bool) → a ≡ not b → a ≡ false → b ≡ true
was_seen a true e is = refl
was_seen a false e is = absurd (true≢false (sym e ∙ is))

pub unseen : (a b : Bool) → a ≡ not b → a ≡ true → b ≡ false
unseen a true e is = absurd (true≢false (sym is ∙ e))
unseen a false e is = refl

pub from_none : (ts : List (List ℕ)) → repeats (λ q. false) ts ≡ has_equals ts
from_none ts = along (λ q. false) ts ∙ ap (λ b. b || has_equals ts) (none_seen ts)

same_seen : (ts : List (List ℕ)) (p r : List ℕ → Bool) → ((q : List ℕ) → p q ≡ r q) → repeats p ts ≡ repeats r ts
same_seen [] p r h = refl
same_seen (t ∷ ts) p r h =
    ap (λ b. b || repeats (λ q. cond (bytes_eq t q) true (p q)) ts) (h t)
    ∙ ap (λ b. r t || b) (same_seen ts (λ q. cond (bytes_eq t q) true (p q)) (λ q. cond (bytes_eq t q) true (r q)) (λ q. ap (λ b. cond (bytes_eq t q) true b) (h q)))

-- a text that was seen stands twice
pub seen_before : (p : List ℕ → Bool) (t : List ℕ) (ts : List (List ℕ)) (e : Bool) → p t ≡ true → repeats p (t ∷ ts) ≡ e → true ≡ e
seen_before p t ts e old is = sym (ap (λ b. b || repeats (λ q. cond (bytes_eq t q) true (p q)) ts) old) ∙ is

-- a text that wasn't seen is seen from then on
pub seen_more : (p r : List ℕ → Bool) (t : List ℕ) (ts : List (List ℕ)) (e : Bool) →
    p t ≡ false → ((q : List ℕ) → r q ≡ cond (bytes_eq t q) true (p q)) → repeats p (t ∷ ts) ≡ e → repeats r ts ≡ e
seen_more p r t ts e new more is =
    same_seen ts r (λ q. cond (bytes_eq t q) true (p q)) more
    ∙ sym (ap (λ b. b || repeats (λ q. cond (bytes_eq t q) true (p q)) ts) new) ∙ is
