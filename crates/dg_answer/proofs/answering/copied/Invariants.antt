use Rattle.std.proofs.Common.{◌≡◌, take}
use Rattle.dg_answer.proofs.answering.copied.Given as goal

abbrev pub invariant-loop-prop : goal.invariant-loop-prop
invariant-loop-prop l = l.all ≡ take l.prop-index l.props
