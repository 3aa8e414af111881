use Rattle.std.proofs.Common.{◌≡◌, length}
use Rattle.dg_ptext.specs.Token.{tokens}
use Rattle.dg_ptext.specs.Reading.{run, start}
use Rattle.dg_ptext.proofs.reading.read_text.Given as goal

abbrev pub invariant-loop-first : goal.invariant-loop-first
invariant-loop-first l = run l.state (tokens 0 l.line l.rest) ≡ run start (tokens 0 1 l.bytes)

abbrev pub decreases-loop-first : goal.decreases-loop-first
decreases-loop-first l = length l.rest
