use Rattle.std.proofs.Common.{◌≡◌, drop, fold}
use Rattle.dg_load.specs.Instances.{child_kept}
use Rattle.dg_load.proofs.state.Load.keep_children.Given as goal

abbrev pub invariant-loop-child : goal.invariant-loop-child
invariant-loop-child l =
    fold (child_kept l.parent) l.self (drop l.child-index l.children) ≡ fold (child_kept l.parent) l.initial.self l.children
