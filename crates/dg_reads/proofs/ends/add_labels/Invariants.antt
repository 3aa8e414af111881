use Rattle.std.proofs.Common.{◌≡◌, ◌++◌, drop, map}
use Rattle.dg_base.specs.Rule.{ends_of}
use Rattle.dg_reads.proofs.ends.add_labels.Given as goal

abbrev pub invariant-loop-field : goal.invariant-loop-field
invariant-loop-field l =
    l.ends.items ++ ends_of l.node (map (λ f. f.label) (drop l.field-index l.fields))
    ≡ l.initial.ends.items ++ ends_of l.node (map (λ f. f.label) l.fields)
