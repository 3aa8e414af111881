use Rattle.std.proofs.Common.{◌≡◌, map, take}
use Rattle.dg_base.specs.Sources.{replaced}
use Rattle.dg_reads.proofs.inputs.replaced.Given as goal

abbrev pub invariant-loop-source : goal.invariant-loop-source
invariant-loop-source g l = l.all.items ≡ map (replaced (g.G.CoreReads.graph l.graph) l.root) (take l.source-index l.sources)
