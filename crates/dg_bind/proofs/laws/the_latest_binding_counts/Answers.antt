use Rattle.dg_bind.proofs.LatestBinding.{latest, others}
use Rattle.dg_bind.proofs.laws.the_latest_binding_counts.Goals as goal

pub returns-clause-latest : goal.returns-clause-latest
returns-clause-latest c = latest

pub returns-clause-others : goal.returns-clause-others
returns-clause-others c = others
