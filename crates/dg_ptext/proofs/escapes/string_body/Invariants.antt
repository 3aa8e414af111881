use Rattle.std.proofs.Common.{◌≡◌, ◌+◌, ℕ, List, [], length}
use Rattle.dg_ptext.specs.Token.{body}
use Rattle.dg_ptext.proofs.escapes.string_body.Given as goal

-- the rest gives what the whole gives
pub record Reads (quote : ℕ) (bytes made : List ℕ) (taken : ℕ) (rest : List ℕ) : Type 0 where
  pub same : body quote made taken 0 rest ≡ body quote [] 0 0 bytes
  pub within : taken + length rest ≡ length bytes

abbrev pub invariant-loop-first : goal.invariant-loop-first
invariant-loop-first l = Reads l.quote l.bytes l.made.items l.taken l.rest

abbrev pub decreases-loop-first : goal.decreases-loop-first
decreases-loop-first l = length l.rest
