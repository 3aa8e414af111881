use Rattle.std.proofs.Common.{◌≡◌, ◌≤◌, ◌<◌, ◌+◌, ℕ, List, length}
use Rattle.dg_ptext.specs.declared.escapes.Numeral.{Numeral}
use Rattle.dg_ptext.specs.Token.{numeral}
use Rattle.dg_ptext.proofs.Strings.{room}
use Rattle.dg_ptext.proofs.escapes.read_numeral.Given as goal

-- the rest gives what the whole gives, and the value has no more digits than were taken
pub record Reads (base places : ℕ) (bytes : List ℕ) (found : Numeral) (left : ℕ) (rest : List ℕ) : Type 0 where
  pub same : numeral base left found.value found.taken rest ≡ numeral base places 0 0 bytes
  pub within : found.taken + length rest ≡ length bytes
  pub few : left ≤ 3
  pub below : found.value < room left

abbrev pub invariant-loop-first : goal.invariant-loop-first
invariant-loop-first l = Reads l.base l.places l.bytes l.found l.left l.rest

abbrev pub decreases-loop-first : goal.decreases-loop-first
decreases-loop-first l = length l.rest
