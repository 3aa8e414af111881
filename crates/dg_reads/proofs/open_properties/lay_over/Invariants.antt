use Rattle.std.proofs.Common.{◌≡◌, length}
use Rattle.dg_base.specs.Rule.{overlaid}
use Rattle.dg_reads.proofs.open_properties.lay_over.Given as goal

abbrev pub invariant-loop-field : goal.invariant-loop-field
invariant-loop-field l = overlaid l.left l.fields ≡ overlaid l.initial.left l.initial.fields

abbrev pub decreases-loop-field : goal.decreases-loop-field
decreases-loop-field l = length l.left
