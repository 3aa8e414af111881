-- How many lines a script has: one more than the line feeds before its last byte.
use Rattle.std.proofs.Common.{◌≡◌, ℕ, suc, ◌+◌, List, [], ◌∷◌, ◌++◌, Bool, true, false, cond, eqb, length, count_by, refl, sym, ap, ◌∙◌, arith}
use Rattle.std.specs.List.{slice_split, onto_first}
use Rattle.std.proofs.lemmas.Bool.Decides.{nat_tests}
use Rattle.std.proofs.lemmas.List.Sums.{sum_by-cons}
use Rattle.dg_script.specs.Script.{is_line_feed, without_empty_end, lines_in}

-- a line more, and a byte more in the first line
behind_line : (ls : List (List ℕ)) (n : ℕ) → length (without_empty_end ls) ≡ suc n → length (without_empty_end ([] ∷ ls)) ≡ suc (suc n)
behind_line [] n is = absurd (omega (arith, is))
behind_line (l ∷ ls) n is = ap suc is

solid_line : (b : ℕ) (bs : List ℕ) → length (without_empty_end ((b ∷ bs) ∷ [])) ≡ 1
solid_line b bs =
    let some : eqb (suc (length bs)) 0 ≡ false = grind (arith, nat_tests) in
    ap (λ e. length (cond {A = List (List ℕ)} e [] ((b ∷ bs) ∷ []))) some

onto_line : (b : ℕ) (ls : List (List ℕ)) (n : ℕ) → length (without_empty_end ls) ≡ suc n → length (without_empty_end (onto_first b ls)) ≡ suc n
onto_line b [] n is = absurd (omega (arith, is))
onto_line b ([] ∷ []) n is = absurd (omega (arith, is))
onto_line b ((c ∷ cs) ∷ []) n is = solid_line b (c ∷ cs) ∙ sym (solid_line c cs) ∙ is
onto_line b (l ∷ m ∷ ls) n is = is

one_line : (b : ℕ) (feed : Bool) → length (without_empty_end (cond feed ([] ∷ [] ∷ []) ((b ∷ []) ∷ []))) ≡ 1
one_line b true = refl
one_line b false = refl

more_lines : (b : ℕ) (feed : Bool) (ls : List (List ℕ)) (n : ℕ) → length (without_empty_end ls) ≡ n + 1 →
    length (without_empty_end (cond feed ([] ∷ ls) (onto_first b ls))) ≡ cond feed 1 0 + n + 1
more_lines b true ls n is =
    let next : length (without_empty_end ls) ≡ suc n = omega (arith, is) in
    behind_line ls n next ∙ omega arith
more_lines b false ls n is =
    let next : length (without_empty_end ls) ≡ suc n = omega (arith, is) in
    onto_line b ls n next ∙ omega arith

lines_before : (front : List ℕ) (b : ℕ) → length (lines_in (front ++ b ∷ [])) ≡ count_by is_line_feed front + 1
lines_before [] b = one_line b (is_line_feed b)
lines_before (x ∷ xs) b =
    more_lines x (is_line_feed x) (slice_split is_line_feed (xs ++ b ∷ [])) (count_by is_line_feed xs) (lines_before xs b)
    ∙ ap (λ n. n + 1) (sym (sum_by-cons (λ c. cond (is_line_feed c) 1 0) x xs))

pub lines_counted : (bytes front : List ℕ) (b n : ℕ) → bytes ≡ front ++ b ∷ [] → n ≡ count_by is_line_feed front → n + 1 ≡ length (lines_in bytes)
lines_counted bytes front b n is count =
    ap (λ m. m + 1) count ∙ sym (lines_before front b) ∙ ap (λ (bs : List ℕ). length (lines_in bs)) (sym is)
