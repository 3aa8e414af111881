use Rattle.std.proofs.Common.{◌≡◌, Some, slice_get}
use Rattle.dg_line.proofs.tests.a_thousand_raises.Given as goal

abbrev pub invariant-loop-n : goal.invariant-loop-n
invariant-loop-n g l = slice_get l.line l.here.index ≡ Some l.here.revision
