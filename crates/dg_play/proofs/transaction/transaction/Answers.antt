use Rattle.dg_play.proofs.Works.{moves-same}
use Rattle.dg_play.proofs.transaction.transaction.Goals as goal

pub returns-in-Err-Because-clause-work : goal.returns-in-Err-Because-clause-work
returns-in-Err-Because-clause-work g c = moves-same g.P.Session.shows g.P.Session.has_done c.args.state.now.session
