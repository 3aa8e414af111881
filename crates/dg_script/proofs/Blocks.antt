-- Reading a script line by line: what is read, and then the rest, stays what the whole is.
use Rattle.std.proofs.Common.{◌≡◌, ℕ, List, ◌∷◌, Option, Some, None, is_some, Result, Err, map, length, get_or, drop, ◌+◌, ◌<◌, refl, sym, ap, subst, ◌∙◌, drop-cons, add-one}
use Rattle.std.proofs.lemmas.List.{drop_more}
use Rattle.dg_script.specs.declared.command.Command.{Command}
use Rattle.dg_base.specs.declared.refusal.Refusal.{Refusal}
use Rattle.dg_base.specs.Refusal.{Gives}
use Rattle.dg_script.specs.declared.command.BadLine.{BadLine}
use Rattle.dg_script.specs.declared.reader.Block.{Block}
use Rattle.dg_script.specs.declared.reader.Reader.{Reader}
use Rattle.dg_script.specs.Script.{Rest, row_at, without_return, rest_by, rest_of, next_line}
use Rattle.dg_script.specs.Reader.{joined, line_of}

-- whether a block is open
has_line : (block : Option Block) → is_some (line_of block) ≡ is_some block
has_line None = refl
has_line (Some block) = refl

module _ {X : Type 0} (f : X → List ℕ) (xs : List X) (i n : ℕ) (d : X) where
  -- the lines from one on, and this one
  line_here : (block : Option Block) → i < length xs →
      rest_of (map f (drop i xs)) n (line_of block)
      ≡ rest_by n (line_of block) (row_at (is_some block) (without_return (f (get_or xs i d)))) (rest_of (map f (drop (i + 1) xs)) (next_line n))
  line_here block lt =
      ap (λ ls. rest_of (map f ls) n (line_of block)) (drop_more xs i d lt)
      ∙ ap (λ inside. rest_by n (line_of block) (row_at inside (without_return (f (get_or xs i d)))) (rest_of (map f (drop (i + 1) xs)) (next_line n)))
      (has_line block)

  pub goes_on : (old new : Reader) (whole : Result (List Command) BadLine) → i < length xs →
      ((rest : Option ℕ → Rest) → joined new (rest (line_of new.block))
      ≡ joined old (rest_by n (line_of old.block) (row_at (is_some old.block) (without_return (f (get_or xs i d)))) rest)) →
      joined old (rest_of (map f (drop i xs)) n (line_of old.block)) ≡ whole →
      joined new (rest_of (map f (drop (i + 1) xs)) (next_line n) (line_of new.block)) ≡ whole
  goes_on old new whole lt read so_far =
      read (rest_of (map f (drop (i + 1) xs)) (next_line n)) ∙ ap (joined old) (sym (line_here old.block lt)) ∙ so_far

  pub stops : (old : Reader) (refusal : Refusal BadLine) (whole : Result (List Command) BadLine) → i < length xs →
      ((rest : Option ℕ → Rest) → Gives {X = List Command} (λ commands. commands) (Err refusal)
      (joined old (rest_by n (line_of old.block) (row_at (is_some old.block) (without_return (f (get_or xs i d)))) rest))) →
      joined old (rest_of (map f (drop i xs)) n (line_of old.block)) ≡ whole → Gives {X = List Command} (λ commands. commands) (Err refusal) whole
  stops old refusal whole lt read so_far =
      subst (Gives {X = List Command} (λ commands. commands) (Err refusal)) (ap (joined old) (sym (line_here old.block lt)) ∙ so_far)
      (read (rest_of (map f (drop (i + 1) xs)) (next_line n)))
