-- A text is split at the last of some marks.
use Rattle.std.specs.Prelude.{ℕ, List, [], ◌∷◌, Bool, cond, ◌==◌, nat_lt, Option, Some, None}
use Rattle.std.specs.List.{list_any}

abbrev pub is_ascii : ℕ → Bool
is_ascii b = nat_lt b 128

abbrev pub is_mark : List ℕ → ℕ → Bool
is_mark marks b = list_any (λ mark. b == mark) marks

-- what stands before a mark, the mark, and what stands behind it
pub record Split : Type 0 where
  pub before : List ℕ
  pub mark : ℕ
  pub behind : List ℕ

-- the split of the text behind a byte, or the one at this byte
abbrev pub or_here : List ℕ → ℕ → List ℕ → Option Split → Option Split
or_here marks b bs None = cond (is_mark marks b) (Some (record { before = []; mark = b; behind = bs })) None
or_here marks b bs (Some split) = Some (record { before = b ∷ split.before; mark = split.mark; behind = split.behind })

abbrev pub split_at_last : List ℕ → List ℕ → Option Split
split_at_last marks [] = None
split_at_last marks (b ∷ bs) = or_here marks b bs (split_at_last marks bs)
