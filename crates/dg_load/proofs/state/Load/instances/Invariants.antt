use Rattle.std.proofs.Common.{◌≡◌, drop, fold}
use Rattle.dg_load.specs.Instances.{instance}
use Rattle.dg_load.proofs.state.Load.instances.Given as goal

abbrev pub invariant-loop-desc : goal.invariant-loop-desc
invariant-loop-desc l =
    fold (instance l.site) l.self (drop l.desc-index l.descs) ≡ fold (instance l.site) l.initial.self l.descs
