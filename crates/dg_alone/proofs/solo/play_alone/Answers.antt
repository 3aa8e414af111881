use Rattle.std.proofs.Common.{◌≡◌, List, [], refl, sym, ap, ◌∙◌, subst}
use Rattle.dg_kinds_coll.specs.Defold.{defold_tables}
use Rattle.dg_editor.specs.Seeing.{state_of as editor_of}
use Rattle.dg_asks.specs.Told.{kept_told, late_told}
use Rattle.dg_play.specs.declared.pins.Pin.{Pin}
use Rattle.dg_play.specs.Play.{Played, played}
use Rattle.dg_play.specs.Seen.{pins_of}
use Rattle.dg_play.specs.Work.{Work, no_work, work_of}
use Rattle.dg_play.specs.Desk.{IsDeskOf}
use Rattle.dg_alone.specs.Works.{HasDone, live_in}
use Rattle.dg_alone.proofs.Ending.{desk-ended, work-done}
use Rattle.dg_alone.proofs.solo.play_alone.Goals as goal

pub returns-clause-desk : goal.returns-clause-desk
returns-clause-desk g c =
    let game = c.args.begin.game in let capacity = c.args.capacity in let cs = c.args.commands.now in
    let v = c.play_commands.new.state.session.world in let w = c.in_ok-world.world in
    let did = subst
    (λ (ps : List Pin). HasDone w game.here.revision capacity no_work →
    HasDone v game.here.revision capacity (work_of defold_tables capacity cs (record { editor = editor_of w.editor; pins = pins_of (live_in w.pins) ps; bound = c.args.begin.bound; names = c.args.begin.names })))
    c.new.ensures.items (c.in_ok-lines.ensures.work game.here.revision capacity no_work) in
    let last = subst
    (λ (ps : List Pin). (played defold_tables cs (record { editor = editor_of w.editor; pins = pins_of (live_in w.pins) ps; bound = c.args.begin.bound; names = c.args.begin.names })).state.editor.now ≡ v.editor.here.revision)
    c.new.ensures.items (ap (λ (p : Played). p.state.editor.now) c.in_ok-lines.ensures.lines) in
    let ended =
    desk-ended defold_tables _ capacity game (λ x. record { editor = editor_of x.editor; pins = []; bound = c.args.begin.bound; names = c.args.begin.names }) w v cs c.in_ok-world.ensures
    did refl c.is_world.ensures.world c.is_world.ensures.desk c.in_ok-lines.ensures.played.ready last in
    subst (λ d. IsDeskOf defold_tables capacity cs (record { editor = editor_of game; pins = []; bound = c.args.begin.bound; names = c.args.begin.names }) d) (sym c.desk_of-desk.ensures) ended

pub returns-clause-work : goal.returns-clause-work
returns-clause-work g c =
    let game = c.args.begin.game in let capacity = c.args.capacity in let cs = c.args.commands.now in
    let v = c.play_commands.new.state.session.world in let w = c.in_ok-world.world in
    let did = subst
    (λ (ps : List Pin). HasDone w game.here.revision capacity no_work →
    HasDone v game.here.revision capacity (work_of defold_tables capacity cs (record { editor = editor_of w.editor; pins = pins_of (live_in w.pins) ps; bound = c.args.begin.bound; names = c.args.begin.names })))
    c.new.ensures.items (c.in_ok-lines.ensures.work game.here.revision capacity no_work) in
    let done =
    work-done defold_tables (λ _. Unit {0}) capacity game (λ x. record { editor = editor_of x.editor; pins = []; bound = c.args.begin.bound; names = c.args.begin.names }) w v cs c.in_ok-world.ensures did in
    let history = c.history-history.ensures ∙ ap (λ d. d.history) c.desk_of-desk.ensures in
    record {
      made = c.made-made.ensures ∙ ap (λ (x : Work). x.made) done.work;
      kept = c.in_ok-kept_told.ensures ∙ ap kept_told history ∙ ap (λ (x : Work). x.kept) done.work;
      late = c.in_ok-late_told.ensures ∙ ap late_told history ∙ ap (λ (x : Work). x.late) done.work;
    }
