use Rattle.std.proofs.Common.{◌≡◌, drop, fold}
use Rattle.dg_load.specs.Children.{child_connected}
use Rattle.dg_load.proofs.draft.Draft.connect_all.Given as goal

abbrev pub invariant-loop-child : goal.invariant-loop-child
invariant-loop-child l =
    fold (child_connected l.site l.instances) l.self (drop l.child-index l.children) ≡ fold (child_connected l.site l.instances) l.initial.self l.children
