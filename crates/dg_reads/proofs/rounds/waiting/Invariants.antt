use Rattle.std.proofs.Common.{◌≡◌, ◌++◌, drop}
use Rattle.dg_reads.specs.DirtyRounds.{waiting}
use Rattle.dg_reads.proofs.rounds.waiting.Given as goal

abbrev pub invariant-loop-one : goal.invariant-loop-one
invariant-loop-one l = l.ends.items ++ waiting (drop l.one-index l.all) l.dirty ≡ waiting l.all l.dirty
