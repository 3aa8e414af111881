use Rattle.std.proofs.Common.{◌≡◌, drop}
use Rattle.dg_load.specs.Properties.{declared}
use Rattle.dg_load.proofs.draft.Draft.declare.Given as goal

abbrev pub invariant-loop-one : goal.invariant-loop-one
invariant-loop-one l =
    declared l.node (drop l.one-index l.declarations) l.self ≡ declared l.node l.declarations l.initial.self
