-- The values at open labels along a chain, from above: how each of some nodes lays its own over them.
use Rattle.std.specs.Prelude.{List, [], ◌∷◌}
use Rattle.dg_base.specs.declared.ids.NodeId.{NodeId}
use Rattle.dg_base.specs.declared.datum.FieldOf.{FieldOf}
use Rattle.dg_base.specs.Graph.{Graph}
use Rattle.dg_base.specs.Rule.{overlaid}
use Rattle.dg_reads.specs.NodeReads.{own_open}

-- the nearest node first
abbrev pub laid_by : Graph → List NodeId → List FieldOf → List FieldOf
laid_by g [] fs = fs
laid_by g (n ∷ ns) fs = overlaid (own_open g n) (laid_by g ns fs)
