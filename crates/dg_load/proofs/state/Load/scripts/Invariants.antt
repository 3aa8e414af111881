use Rattle.std.proofs.Common.{◌≡◌, drop, fold}
use Rattle.dg_load.specs.Scripts.{script}
use Rattle.dg_load.proofs.state.Load.scripts.Given as goal

abbrev pub invariant-loop-source : goal.invariant-loop-source
invariant-loop-source l =
    fold script l.self (drop l.source-index l.sources) ≡ fold script l.initial.self l.sources
