use Rattle.std.proofs.Common.{◌≡◌, drop, fold}
use Rattle.dg_load.specs.Objects.{object_file}
use Rattle.dg_load.proofs.state.Load.object_files.Given as goal

abbrev pub invariant-loop-source : goal.invariant-loop-source
invariant-loop-source l =
    fold (object_file l.listed) l.self (drop l.source-index l.sources) ≡ fold (object_file l.listed) l.initial.self l.sources
