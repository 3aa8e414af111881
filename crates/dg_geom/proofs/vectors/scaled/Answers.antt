use Rattle.std.proofs.Common.{rules}
use Rattle.dg_geom.specs.Vectors.{scaled}
use Rattle.dg_geom.proofs.vectors.scaled.Goals as goal

pub returns : goal.returns
returns c = c.vector_of.ensures (scaled c.args.a c.args.b) (search rules) (search rules) (search rules)
