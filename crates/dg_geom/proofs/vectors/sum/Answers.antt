use Rattle.std.proofs.Common.{rules}
use Rattle.dg_geom.specs.Vectors.{sum}
use Rattle.dg_geom.proofs.vectors.sum.Goals as goal

pub returns : goal.returns
returns c = c.vector_of.ensures (sum c.args.a c.args.b) (search rules) (search rules) (search rules)
