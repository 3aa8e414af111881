use Rattle.std.proofs.Common.{rules}
use Rattle.dg_geom.specs.Rotations.{w_products}
use Rattle.dg_geom.proofs.rotations.products.Goals as goal

pub returns : goal.returns
returns c = c.vector4_of.ensures (w_products c.args.a c.args.b) (search rules) (search rules) (search rules) (search rules)
