-- The last mark of a text.
use Rattle.std.proofs.Common.{◌≡◌, ℕ, ◌+◌, ◌<◌, ◌≤◌, eqb, Bool, true, false, cond, ◌||◌, List, [], ◌∷◌, ◌++◌, Option, Some, None, length, get_or, take, drop, refl, sym, ap, ◌∙◌, arith, take-append-drop, ltb-true}
use Rattle.std.proofs.lemmas.Bool.{eqb-true, and_parts, false≢true}
use Rattle.std.proofs.lemmas.List.{drop_more}
use Rattle.std.specs.List.{list_all}
use Rattle.dg_text.specs.LastMark.{Split, is_ascii, is_mark, or_here, split_at_last}

-- what stands before a mark without another behind it
split_behind : (marks front : List ℕ) (b : ℕ) (rest : List ℕ) → is_mark marks b ≡ true → split_at_last marks rest ≡ None →
    split_at_last marks (front ++ b ∷ rest) ≡ Some (record { before = front; mark = b; behind = rest })
split_behind marks [] b rest mark none =
    ap (or_here marks b rest) none ∙ ap (λ v. cond v (Some (let split : Split = record { before = []; mark = b; behind = rest } in split)) None) mark
split_behind marks (x ∷ xs) b rest mark none = ap (or_here marks x (xs ++ b ∷ rest)) (split_behind marks xs b rest mark none)

pub no_mark : (marks text : List ℕ) (i : ℕ) → i < length text → is_mark marks (get_or text i 0) ≡ false → split_at_last marks (drop (i + 1) text) ≡ None →
    split_at_last marks (drop i text) ≡ None
no_mark marks text i lt not none =
    ap (split_at_last marks) (drop_more text i 0 lt) ∙ ap (or_here marks (get_or text i 0) (drop (i + 1) text)) none
    ∙ ap (λ v. cond v (Some (let split : Split = record { before = []; mark = get_or text i 0; behind = drop (i + 1) text } in split)) None) not

pub mark_at : (marks text : List ℕ) (i : ℕ) → i < length text → is_mark marks (get_or text i 0) ≡ true → split_at_last marks (drop (i + 1) text) ≡ None →
    split_at_last marks text ≡ Some (record { before = take i text; mark = get_or text i 0; behind = drop (i + 1) text })
mark_at marks text i lt mark none =
    ap (split_at_last marks) (sym (take-append-drop i text) ∙ ap (λ t. take i text ++ t) (drop_more text i 0 lt))
    ∙ split_behind marks (take i text) (get_or text i 0) (drop (i + 1) text) mark none

-- a mark is ASCII where all of them are
pub mark_is_ascii : (marks : List ℕ) (b : ℕ) → list_all is_ascii marks ≡ true → is_mark marks b ≡ true → b < 128
mark_is_ascii [] b all mark = absurd (false≢true mark)
mark_is_ascii (m ∷ ms) b all mark = by (eqb b m) refl mark (λ rest. mark_is_ascii ms b (and_parts _ _ all).1 rest)
  where
    by : (t : Bool) → eqb b m ≡ t → t || is_mark ms b ≡ true → (is_mark ms b ≡ true → b < 128) → b < 128
    by true e or h = let same : b ≡ m = eqb-true b m e in let low : m < 128 = ltb-true _ _ (and_parts _ _ all).0 in omega (arith, same, low)
    by false e or h = h or

-- what stands before a mark is shorter than the text
abbrev pub before_mark : Option Split → ℕ
before_mark None = 0
before_mark (Some split) = length split.before + 1

before-here : (marks : List ℕ) (b : ℕ) (bs : List ℕ) (o : Option Split) → before_mark o ≤ length bs → before_mark (or_here marks b bs o) ≤ length (b ∷ bs)
before-here marks b bs None h = by (is_mark marks b)
  where
    by : (here : Bool) → before_mark (cond here (Some (record { before = []; mark = b; behind = bs })) None) ≤ length (b ∷ bs)
    by true = omega arith
    by false = omega arith
before-here marks b bs (Some split) h = omega (arith, h)

pub before-within : (marks text : List ℕ) → before_mark (split_at_last marks text) ≤ length text
before-within marks [] = omega arith
before-within marks (b ∷ bs) = before-here marks b bs (split_at_last marks bs) (before-within marks bs)

pub before-shorter : (marks text : List ℕ) (split : Split) → split_at_last marks text ≡ Some split → length split.before < length text
before-shorter marks text split e =
    let within : before_mark (split_at_last marks text) ≤ length text = before-within marks text in
    let is : before_mark (split_at_last marks text) ≡ length split.before + 1 = ap before_mark e in
    omega (arith, within, is)
