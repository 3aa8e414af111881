-- A list of tickets with one more at its end.
use Rattle.std.proofs.Common.{◌≡◌, ◌==◌, Bool, false, List, [], ◌∷◌, ◌++◌, reverse, length, ap, ◌∙◌, All, arith}
use Rattle.std.proofs.lemmas.Bool.Decides.{nat_tests}
use Rattle.std.proofs.lemmas.List.{reverse-append}
use Rattle.std.proofs.lemmas.List.Elements.{All-same, All-push, All-weaker}

-- seen from its end
pub pushed-reverse : {X : Type 0} (xs ys : List X) (x : X) → ys ≡ xs ++ x ∷ [] → reverse ys ≡ x ∷ reverse xs
pushed-reverse xs ys x e = ap reverse e ∙ reverse-append xs (x ∷ [])

-- what holds of all of them still does
pub pushed-all : {X : Type 0} (P Q : X → Type 0) (xs ys : List X) (x : X) → ((z : X) → P z → Q z) → All P xs → P x → ys ≡ xs ++ x ∷ [] → All Q ys
pushed-all P Q xs ys x more all here e = All-same Q ys (xs ++ x ∷ []) e (All-push Q xs x (All-weaker P Q more xs all) (more x here))

-- what holds of all of them, where the list is the same
pub same-all : {X : Type 0} (P Q : X → Type 0) (xs ys : List X) → ((z : X) → P z → Q z) → All P xs → ys ≡ xs → All Q ys
same-all P Q xs ys more all e = All-same Q ys xs e (All-weaker P Q more xs all)

-- a list that isn't empty has a length
pub not-empty : {X : Type 0} (xs : List X) (b : Bool) → b ≡ (length xs == 0) → b ≡ false → length xs ≡ 0 → ⊥
not-empty xs b e f z = grind (arith, nat_tests)
