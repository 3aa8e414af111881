use Rattle.dg_labels.proofs.Agreement.{name_of_named}
use Rattle.dg_labels.proofs.labels.labels_agree.Goals as goal

pub returns-clause-name : goal.returns-clause-name
returns-clause-name c = name_of_named
