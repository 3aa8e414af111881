-- The last place of a name, found from the end.
use Rattle.std.proofs.Common.{◌≡◌, ℕ, ◌+◌, ◌<◌, true, false, cond, List, [], ◌∷◌, ◌++◌, Some, None, length, get_or, take, drop, sym, ap, ◌∙◌, arith, take-append-drop}
use Rattle.std.proofs.lemmas.List.{drop_more, length-take-le}
use Rattle.std.specs.Str.{bytes_eq}
use Rattle.dg_bind.specs.Scope.{or_later, last_place}

-- a name that doesn't stand behind one of its places
last-behind : (front : List (List ℕ)) (m : List ℕ) (rest : List (List ℕ)) (name : List ℕ) → bytes_eq name m ≡ true → last_place rest name ≡ None →
    last_place (front ++ m ∷ rest) name ≡ Some (length front)
last-behind [] m rest name same none =
    ap (or_later (bytes_eq name m)) none ∙ ap (λ b. cond b (Some 0) None) same
last-behind (x ∷ xs) m rest name same none =
    let one : length xs + 1 ≡ length (x ∷ xs) = omega arith in
    ap (or_later (bytes_eq name x)) (last-behind xs m rest name same none) ∙ ap Some one

pub place_at : (names : List (List ℕ)) (i : ℕ) (d name : List ℕ) → i < length names → bytes_eq name (get_or names i d) ≡ true → last_place (drop (i + 1) names) name ≡ None →
    last_place names name ≡ Some i
place_at names i d name lt same none =
    ap (λ (l : List (List ℕ)). last_place l name) (sym (take-append-drop i names) ∙ ap (λ (l : List (List ℕ)). take i names ++ l) (drop_more names i d lt))
    ∙ last-behind (take i names) (get_or names i d) (drop (i + 1) names) name same none
    ∙ ap Some (length-take-le i names (omega (arith, lt)))

pub no_place : (names : List (List ℕ)) (i : ℕ) (d name : List ℕ) → i < length names → bytes_eq name (get_or names i d) ≡ false → last_place (drop (i + 1) names) name ≡ None →
    last_place (drop i names) name ≡ None
no_place names i d name lt differs none =
    ap (λ (l : List (List ℕ)). last_place l name) (drop_more names i d lt)
    ∙ ap (or_later (bytes_eq name (get_or names i d))) none
    ∙ ap (λ b. cond b (Some 0) None) differs
