use Rattle.std.proofs.Common.{◌≡◌, drop, fold}
use Rattle.dg_load.specs.Components.{embedded}
use Rattle.dg_load.proofs.state.Load.embedded_components.Given as goal

abbrev pub invariant-loop-desc : goal.invariant-loop-desc
invariant-loop-desc l =
    fold (embedded l.home) l.self (drop l.desc-index l.descs) ≡ fold (embedded l.home) l.initial.self l.descs
