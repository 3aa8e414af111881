use Rattle.std.proofs.Common.{Some, ap, ◌∙◌}
use Rattle.dg_cache.proofs.Pairs.{value-found}
use Rattle.dg_cache.proofs.values.get.Goals as goal

pub returns-in-Some : goal.returns-in-Some
returns-in-Some c = ap Some c.value.ensures ∙ c.in-Some.ensures ∙ value-found c.args.at c.args.values.now

pub returns-in-None : goal.returns-in-None
returns-in-None c = c.in-None.ensures ∙ value-found c.args.at c.args.values.now
