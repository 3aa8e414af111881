use Rattle.std.proofs.Common.{◌≡◌, ◌∙◌, ◌++◌, ap, sym, le_trans, get_or, take}
use Rattle.std.specs.Option.{option_map}
use Rattle.dg_deeds.specs.Printed.{text_of, GotPrefix}
use Rattle.dg_deeds.proofs.Sinks.{OnErr-always, GotAll-append, GotPrefix-line, text_of-take, stays_sound}
use Rattle.dg_deeds.proofs.printing.put_lines.Goals as goal

pub returns-in_err-put_all-clause-err : goal.returns-in_err-put_all-clause-err
returns-in_err-put_all-clause-err g c =
    let line = c.as_slice.result.now in
    let is : line ≡ get_or c.args.lines.now c.loop-line.line-index line =
    c.as_slice.ensures ∙ c.line-item.is ∙ ap (get_or c.args.lines.now c.loop-line.line-index) (sym c.as_slice.ensures) in
    let part : GotPrefix (g.S.Sink.bytes c.loop-line.out) (g.S.Sink.bytes c.put_all.new.out) line =
    (c.in_err-put_all.ensures.err.0, c.in_err-put_all.ensures.err.1) in
    let all = GotPrefix-line (g.S.Sink.bytes c.args.out.now) (g.S.Sink.bytes c.loop-line.out) (g.S.Sink.bytes c.put_all.new.out) c.args.lines.now
    c.loop-line.line-index line is c.loop-line-test.true c.loop-line.invariant.got part in
    OnErr-always c.from_residual.result all

pub loop-line-preserved : goal.loop-line-preserved
loop-line-preserved g c =
    let line = c.line-item.result in
    record {
      got =
          GotAll-append (g.S.Sink.bytes c.args.out.now) (g.S.Sink.bytes c.loop-line.out) (g.S.Sink.bytes c.put_all.new.out) _ _
          c.loop-line.invariant.got c.in_ok-put_all.ensures.ok
          ∙ ap (λ t. option_map (λ bs. bs ++ t) (g.S.Sink.bytes c.args.out.now))
          (ap (λ l. text_of (take c.loop-line.line-index c.args.lines.now) ++ l) c.as_slice.ensures
          ∙ sym (text_of-take c.args.lines.now c.loop-line.line-index line c.line-item.is c.loop-line-test.true));
      never_falls = le_trans c.loop-line.invariant.never_falls c.in_ok-put_all.ensures.cause.never_falls;
      sound = stays_sound g.S.Sink.is_sound g.S.Sink.faults c.args.out.now c.loop-line.out c.put_all.new.out c.loop-line.invariant.sound c.in_ok-put_all.ensures.sound;
    }

pub returns-in_err-put_all-clause-sound : goal.returns-in_err-put_all-clause-sound
returns-in_err-put_all-clause-sound g c =
    stays_sound g.S.Sink.is_sound g.S.Sink.faults c.args.out.now c.loop-line.out c.put_all.new.out c.loop-line.invariant.sound c.put_all.ensures.sound
