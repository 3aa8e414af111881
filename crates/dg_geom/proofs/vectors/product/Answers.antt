use Rattle.std.proofs.Common.{rules}
use Rattle.dg_decimal.specs.Arithmetic.{product}
use Rattle.dg_geom.proofs.Refusals.{narrowed_is}
use Rattle.dg_geom.proofs.vectors.product.Goals as goal

pub returns : goal.returns
returns c = narrowed_is c.mul.result (product c.args.a c.args.b) (search rules)
