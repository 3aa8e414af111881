use Rattle.std.proofs.Common.{rules}
use Rattle.dg_geom.specs.Vectors.{difference}
use Rattle.dg_geom.proofs.vectors.difference.Goals as goal

pub returns : goal.returns
returns c = c.vector_of.ensures (difference c.args.a c.args.b) (search rules) (search rules) (search rules)
