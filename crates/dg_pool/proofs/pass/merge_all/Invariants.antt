use Rattle.std.proofs.Common.{◌≡◌, ◌+◌, length}
use Rattle.dg_pool.specs.Tallies.{plus, portion, sum_of}
use Rattle.dg_pool.proofs.pass.merge_all.Given as goal

abbrev pub invariant-loop-pass : goal.invariant-loop-pass
invariant-loop-pass g l = l.all ≡ portion (l.fn.all.parts + length l.yielded) (plus l.fn.all.tally (sum_of l.yielded))
