use Rattle.std.proofs.Common.{◌≡◌, drop, fold}
use Rattle.dg_load.specs.Subs.{collection_instance}
use Rattle.dg_load.proofs.state.Load.collection_instances.Given as goal

abbrev pub invariant-loop-desc : goal.invariant-loop-desc
invariant-loop-desc l =
    fold (collection_instance l.site) l.self (drop l.desc-index l.descs) ≡ fold (collection_instance l.site) l.initial.self l.descs
