use Rattle.dg_load_laws.proofs.Whole.{names_made, each_id, names_nodes}
use Rattle.dg_load_laws.proofs.laws.bound_names_are_made.Goals as goal

pub returns-clause-names : goal.returns-clause-names
returns-clause-names c = names_made

pub returns-clause-ids : goal.returns-clause-ids
returns-clause-ids c = each_id

pub returns-clause-nodes : goal.returns-clause-nodes
returns-clause-nodes c = names_nodes
