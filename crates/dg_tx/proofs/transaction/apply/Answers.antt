use Rattle.std.proofs.Common.{rules, ◌≡◌, List, Result, Ok, IfOk, ap, sym, subst, ◌∙◌}
use Rattle.dg_base.specs.declared.ids.Endpoint.{Endpoint}
use Rattle.dg_base.specs.declared.step.RefusedStep.{RefusedStep}
use Rattle.dg_base.specs.Graph.{Graph}
use Rattle.dg_base.specs.Order.{ordered}
use Rattle.dg_base.specs.Sound.{IsSound, ids_below}
use Rattle.dg_base.specs.Progress.{IsReady}
use Rattle.dg_base.specs.Transact.{Applied, applied}
use Rattle.dg_over.specs.Makes.{progress_of}
use Rattle.dg_laws.proofs.SoundApplied.{IsDone, applied_from-done}
use Rattle.dg_touch.specs.Laws.{RulesAgreeOutside}
use Rattle.dg_touch.proofs.TransactRules.{accepted-rules}
use Rattle.dg_tx.proofs.transaction.apply.Given.{Over as over}
use Rattle.dg_tx.proofs.transaction.apply.Goals as goal

-- what the steps gave
abbrev all : (g : over) → goal.After-from_vec-2 g → Applied
all g c = record {
  graph = c.do_all.new.work.graph;
  next = c.do_all.new.work.next;
  made = c.do_all.new.work.made.items;
  touched = ordered c.do_all.new.work.touched.items;
}

done : (g : over) (c : goal.After-from_vec-2 g) → IsDone g.S.Schema.tables c.args.next (all g c)
done g c =
    let ready : IsReady g.S.Schema.tables (progress_of c.in_ok-share.field-0 c.args.next c.new.result.items) = record {
      sound = subst (IsSound g.S.Schema.tables) (sym c.in_ok-share.ensures.graph) c.in_ok-share.ensures.sound;
      below = ap (λ (h : Graph). ids_below h c.args.next) c.in_ok-share.ensures.graph ∙ c.requires.below;
      some = c.requires.some;
    } in
    subst (λ (r : Result Applied RefusedStep). IfOk r (IsDone g.S.Schema.tables c.args.next)) c.in_ok-do_all.ensures (applied_from-done c.args.steps.now ready 1 c.new-2.result.items)

pub returns-clause-sound : goal.returns-clause-sound
returns-clause-sound g c = (done g c).sound

pub returns-clause-new_below : goal.returns-clause-new_below
returns-clause-new_below g c = (done g c).below

pub returns-clause-later : goal.returns-clause-later
returns-clause-later g c = (done g c).later

pub returns-clause-changes : goal.returns-clause-changes
returns-clause-changes g c =
    let given : applied g.S.Schema.tables c.args.graph.now c.args.next c.args.steps.now ≡ Ok (all g c) = search rules in
    let touched : ordered c.do_all.new.work.touched.items ≡ c.from_vec-2.result = search rules in
    subst (λ (ts : List Endpoint). RulesAgreeOutside g.S.Schema.tables c.args.graph.now c.do_all.new.work.graph ts) touched (
    accepted-rules {next = c.args.next} {ss = c.args.steps.now} {a = all g c} (record { sound = c.in_ok-share.ensures.sound; below = c.requires.below; some = c.requires.some; gives = given }) g.met.S.Schema.laws)
