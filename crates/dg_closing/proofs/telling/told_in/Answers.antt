use Rattle.std.proofs.Common.{List, sym, subst, take}
use Rattle.std.proofs.lemmas.List.{take_all}
use Rattle.dg_line.specs.Revisions.{Seen}
use Rattle.dg_desk.specs.Machine.{Event}
use Rattle.dg_closing.specs.Closing.{AreToldWhere, asks_of}
use Rattle.dg_closing.specs.Spots.{AreSpotted}
use Rattle.dg_closing.proofs.Lists.{take-next}
use Rattle.dg_closing.proofs.telling.told_in.Goals as goal

pub loop-event-preserved : goal.loop-event-preserved
loop-event-preserved g c =
    let hs = take c.loop-event.event-index c.args.history.now in
    let next = sym (take-next c.args.history.now c.loop-event.event-index c.event-item.result c.event-item.is c.loop-event-test.true) in
    record {
      spots = subst (λ (l : List (Event Seen g.row.N-Mark.Denot)). AreSpotted g.N.Mark.Mark.seen l c.read.new.spots) next (c.in_ok-read.ensures.spots hs c.loop-event.invariant.spots);
      told =
          subst (λ (l : List (Event Seen g.row.N-Mark.Denot)). AreToldWhere l c.read.new.told.items (asks_of c.args.asked.now)) next
          (c.in_ok-read.ensures.told hs c.loop-event.invariant.spots c.loop-event.invariant.told);
    }

pub returns : goal.returns
returns g c =
    subst (λ (l : List (Event Seen g.row.N-Mark.Denot)). AreToldWhere l c.loop-event.told.items (asks_of c.args.asked.now))
    (take_all c.loop-event.event-index c.args.history.now c.loop-event-test.false) c.loop-event.invariant.told
