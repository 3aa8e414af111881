use Rattle.std.proofs.Common.{◌≡◌, length}
use Rattle.dg_base.specs.Sources.{sources}
use Rattle.dg_reads.specs.Inheritance.{shown_by}
use Rattle.dg_reads.proofs.inputs.sources_along.Given as goal

-- on the way up: what the roots make of the sources here
abbrev pub invariant-loop-root : goal.invariant-loop-root
invariant-loop-root g l = shown_by (g.G.CoreReads.graph l.graph) l.roots.items (sources (g.G.CoreReads.graph l.graph) l.at l.input) ≡ sources (g.G.CoreReads.graph l.graph) l.initial.at l.input

abbrev pub decreases-loop-root : goal.decreases-loop-root
decreases-loop-root g l = l.at.0

-- on the way down: what the roots that are left make of what was found
abbrev pub invariant-loop-root-2 : goal.invariant-loop-root-2
invariant-loop-root-2 g l = shown_by (g.G.CoreReads.graph l.graph) l.roots.items l.found.items ≡ shown_by (g.G.CoreReads.graph l.graph) l.initial.roots.items l.initial.found.items

abbrev pub decreases-loop-root-2 : goal.decreases-loop-root-2
decreases-loop-root-2 g l = length l.roots.items
