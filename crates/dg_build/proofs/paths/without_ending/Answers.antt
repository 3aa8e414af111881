use Rattle.dg_build.proofs.EqualTexts.{stripped, as_it_is}
use Rattle.dg_build.proofs.paths.without_ending.Goals as goal

pub returns-in-Some : goal.returns-in-Some
returns-in-Some c = stripped c.args.path.now c.args.ending.now _ c.in-Some.ensures.cases

pub returns-in-None : goal.returns-in-None
returns-in-None c = as_it_is c.args.path.now c.args.ending.now c.in-None.ensures.cases
