use Rattle.std.proofs.Common.{◌≡◌, drop, fold}
use Rattle.dg_load.specs.Collections.{collection_file}
use Rattle.dg_load.proofs.state.Load.collection_files.Given as goal

abbrev pub invariant-loop-source : goal.invariant-loop-source
invariant-loop-source l =
    fold collection_file l.self (drop l.source-index l.sources) ≡ fold collection_file l.initial.self l.sources
