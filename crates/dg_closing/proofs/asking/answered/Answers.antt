use Rattle.std.proofs.Common.{subst, IfSome}
use Rattle.dg_asks.specs.Asks.{asking_ask}
use Rattle.dg_asks.specs.Told.{IsTold}
use Rattle.dg_closing.proofs.Growing.{done-kept}
use Rattle.dg_closing.proofs.Lists.{ok-any}
use Rattle.dg_closing.proofs.asking.answered.Goals as goal

pub returns-in_ok-share-in-Some-clause-done : goal.returns-in_ok-share-in-Some-clause-done
returns-in_ok-share-in-Some-clause-done g c =
    let ask = asking_ask c.args.asking.now in
    let told = subst (λ o. IfSome o (λ h. IsTold c.args.desk.now.history c.args.number ask)) c.in-Some.is c.requires.told in
    ok-any c.answer_of.result (done-kept g.N.Mark.Mark.seen c.args.desk.now c.args.number ask told)
