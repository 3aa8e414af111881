use Rattle.std.proofs.Common.{◌≡◌, drop}
use Rattle.std.specs.List.{list_any}
use Rattle.dg_reads.specs.ArgReads.{is_read}
use Rattle.dg_reads.proofs.readers.reads_one.Given as goal

abbrev pub invariant-loop-arg : goal.invariant-loop-arg
invariant-loop-arg g l = list_any (is_read (g.G.CoreReads.graph l.graph) l.node l.reads) (drop l.arg-index l.args) ≡ list_any (is_read (g.G.CoreReads.graph l.graph) l.node l.reads) l.args
