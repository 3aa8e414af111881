use Rattle.std.proofs.Common.{ap}
use Rattle.dg_asks.specs.Asks.{asking_ask}
use Rattle.dg_asks.specs.Told.{ask_of}
use Rattle.dg_offer.specs.Offers.{Offered}
use Rattle.dg_line.specs.Revisions.{Seen}
use Rattle.dg_closing.proofs.Growing.{done-published}
use Rattle.dg_closing.proofs.asking.evaluated_here.Goals as goal

pub returns-clause-done : goal.returns-clause-done
returns-clause-done g c =
    let f = c.in_ok-found in
    done-published g.N.Mark.Mark.seen c.requires.seen c.args.desk.now c.publish-published.new.self f.found.offer c.publish-published.result c.args.number (asking_ask c.args.asking.now)
    c.publish-published.ensures c.in_ok-put_of.ensures
    (ap (λ (o : Offered Seen g.row.N-Mark.Denot). o.ask) f.ensures.offer) (ap (λ (o : Offered Seen g.row.N-Mark.Denot). ask_of o) f.ensures.offer) f.ensures.sources
