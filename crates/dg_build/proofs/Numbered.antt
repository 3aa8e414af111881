-- What the members of a list and their numbers give, with one member more.
use Rattle.std.proofs.Common.{◌≡◌, ◌∙◌, ℕ, ◌+◌, ◌<◌, List, [], ◌∷◌, ◌++◌, map, take, length, get_or, sym, ap, arith, append_assoc, subst}
use Rattle.std.specs.List.{enumerate_from}
use Rattle.std.proofs.lemmas.List.{length-take-le, take_more, get_or-map, length-map}

module _ {X Y : Type 0} (f : ℕ × X → Y) where
  abbrev pub numbered : ℕ → List X → List Y
  numbered k xs = map f (enumerate_from k xs)

  behind : (k : ℕ) (xs : List X) (x : X) → numbered k (xs ++ x ∷ []) ≡ numbered k xs ++ f (k + length xs, x) ∷ []
  behind k [] x = ap (λ n. f (n, x) ∷ []) (omega arith)
  behind k (y ∷ ys) x =
      ap (λ (l : List Y). f (k, y) ∷ l)
      (behind (k + 1) ys x ∙ ap (λ n. numbered (k + 1) ys ++ f (n, x) ∷ []) (omega arith))

  -- one more of the first so many
  pub numbered_more : (xs : List X) (i : ℕ) (d : X) → i < length xs → numbered 0 (take (i + 1) xs) ≡ numbered 0 (take i xs) ++ f (i, get_or xs i d) ∷ []
  numbered_more xs i d lt =
      ap (numbered 0) (take_more xs i d lt)
      ∙ behind 0 (take i xs) (get_or xs i d)
      ∙ ap (λ n. numbered 0 (take i xs) ++ f (0 + n, get_or xs i d) ∷ []) (length-take-le i xs (omega arith))
      ∙ ap (λ n. numbered 0 (take i xs) ++ f (n, get_or xs i d) ∷ []) (omega arith)

  -- what the first so many are seen as, and one more, behind what is there
  pub push_numbered : {T : Type 0} (seen : T → X) (ts : List T) (i : ℕ) (t : T) (before old : List Y) → i < length ts →
      old ≡ before ++ numbered 0 (take i (map seen ts)) →
      old ++ f (i, seen (get_or ts i t)) ∷ [] ≡ before ++ numbered 0 (take (i + 1) (map seen ts))
  push_numbered seen ts i t before old lt so_far =
      ap (λ (l : List Y). l ++ f (i, seen (get_or ts i t)) ∷ []) so_far
      ∙ append_assoc before (numbered 0 (take i (map seen ts))) (f (i, seen (get_or ts i t)) ∷ [])
      ∙ ap (λ x. before ++ (numbered 0 (take i (map seen ts)) ++ f (i, x) ∷ [])) (sym (get_or-map seen ts i t (seen t) lt))
      ∙ ap (λ (l : List Y). before ++ l) (sym (numbered_more (map seen ts) i (seen t) (subst (λ n. i < n) (sym (length-map ts seen)) lt)))
