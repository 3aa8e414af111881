use Rattle.std.proofs.Common.{◌≡◌, drop, fold}
use Rattle.dg_load.specs.Instances.{embedded_instance}
use Rattle.dg_load.proofs.state.Load.embedded_instances.Given as goal

abbrev pub invariant-loop-desc : goal.invariant-loop-desc
invariant-loop-desc l =
    fold (embedded_instance l.listed l.site) l.self (drop l.desc-index l.descs) ≡ fold (embedded_instance l.listed l.site) l.initial.self l.descs
