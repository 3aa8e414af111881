use Rattle.dg_desc.proofs.Accepted as accepted
use Rattle.dg_desc.proofs.Formatted as formatted
use Rattle.dg_desc.proofs.PrintsAgain as printed
use Rattle.dg_desc.proofs.laws.coll_reads_again.Goals as goal

pub returns-clause-read : goal.returns-clause-read
returns-clause-read c = accepted.coll_reads_again

pub returns-clause-printed : goal.returns-clause-printed
returns-clause-printed c = printed.coll_printed

pub returns-clause-formatted : goal.returns-clause-formatted
returns-clause-formatted c = formatted.coll_formatted
