use Rattle.std.proofs.Common.{le_trans}
use Rattle.dg_deeds.proofs.Sinks.{put_step, put_within, stays_sound}
use Rattle.dg_deeds.proofs.printing.put_all.Goals as goal

pub loop-at-preserved : goal.loop-at-preserved
loop-at-preserved g c =
    let taken = c.in_ok-at.field-0 in
    record {
      within = put_within c.args.piece.now c.loop-at.at taken c.in_ok-at.ensures.within c.loop-at.invariant.within;
      got =
          put_step (g.S.Sink.bytes c.args.out.now) (g.S.Sink.bytes c.loop-at.out) (g.S.Sink.bytes c.put.new.self) c.args.piece.now c.loop-at.at taken
          c.loop-at.invariant.got c.in_ok-at.ensures.ok;
      never_falls = le_trans c.loop-at.invariant.never_falls c.in_ok-at.ensures.cause.never_falls;
      sound = stays_sound g.S.Sink.is_sound g.S.Sink.faults c.args.out.now c.loop-at.out c.put.new.self c.loop-at.invariant.sound c.in_ok-at.ensures.sound;
    }

pub returns-in_err-at-clause-sound : goal.returns-in_err-at-clause-sound
returns-in_err-at-clause-sound g c =
    stays_sound g.S.Sink.is_sound g.S.Sink.faults c.args.out.now c.loop-at.out c.put.new.self c.loop-at.invariant.sound c.put.ensures.sound
