-- Draws and other lists by number, with one number more.
use Rattle.std.proofs.Common.{◌≡◌, ◌∙◌, ℕ, suc, ◌+◌, ◌/◌, ◌%◌, List, [], ◌∷◌, ◌++◌, map, flat_map, refl, sym, ap, arith, append_assoc}
use Rattle.std.specs.List.{range_with_len}
use Rattle.std.proofs.lemmas.List.{flat_map_more}
use Rattle.std.proofs.lemmas.List.FromFn.{map-range_with_len_more}
use Rattle.dg_gen.specs.Draws.{next, state_after, drawn, draws}

from_zero : (count : ℕ) → (0 + count) ≡ count
from_zero count = omega arith

pub state_more : (seed count : ℕ) → state_after seed (count + 1) ≡ next (state_after seed count)
state_more seed count =
    let e : (count + 1) ≡ suc count = omega arith in
    ap (state_after seed) e

-- the draw behind the first so many, by the state before it
pub draws_more : (seed count state : ℕ) → state ≡ state_after seed count → draws seed (count + 1) ≡ draws seed count ++ next state / 65536 % 100 ∷ []
draws_more seed count state is =
    map-range_with_len_more (drawn seed) 0 count count (from_zero count) ∙ ap (λ s. draws seed count ++ next s / 65536 % 100 ∷ []) (sym is)

plain_map : (xs : List ℕ) → map (λ x. x) xs ≡ xs
plain_map [] = refl
plain_map (x ∷ xs) = ap (λ (l : List ℕ). x ∷ l) (plain_map xs)

range_more : (count : ℕ) → range_with_len 0 (count + 1) ≡ range_with_len 0 count ++ count ∷ []
range_more count =
    sym (plain_map (range_with_len 0 (count + 1)))
    ∙ map-range_with_len_more (λ x. x) 0 count count (from_zero count)
    ∙ ap (λ (l : List ℕ). l ++ count ∷ []) (plain_map (range_with_len 0 count))

-- what each number gives, put behind what was there
pub each_put : {A : Type 0} (f : ℕ → List A) (count : ℕ) (before old new : List A) → new ≡ old ++ f count →
    old ≡ before ++ flat_map f (range_with_len 0 count) → new ≡ before ++ flat_map f (range_with_len 0 (count + 1))
each_put f count before old new is so_far =
    is ∙ ap (λ l. l ++ f count) so_far
    ∙ flat_map_more f before (range_with_len 0 count) count
    ∙ ap (λ l. before ++ flat_map f l) (sym (range_more count))

pub one_put : {A : Type 0} (f : ℕ → A) (count : ℕ) (before old new : List A) → new ≡ old ++ f count ∷ [] →
    old ≡ before ++ map f (range_with_len 0 count) → new ≡ before ++ map f (range_with_len 0 (count + 1))
one_put f count before old new is so_far =
    is ∙ ap (λ l. l ++ f count ∷ []) so_far
    ∙ append_assoc before (map f (range_with_len 0 count)) (f count ∷ [])
    ∙ ap (λ l. before ++ l) (sym (map-range_with_len_more f 0 count count (from_zero count)))
