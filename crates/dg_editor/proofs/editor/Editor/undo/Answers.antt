use Rattle.std.proofs.Common.{◌≡◌, ◌+◌, ◌<◌, ◌∷◌, ◌++◌, [], List, ap, sym, ◌∙◌, subst, reverse, Ok}
use Rattle.dg_base.specs.declared.limits.TheConstants.{REVISIONS}
use Rattle.dg_base.specs.Graph.{Graph}
use Rattle.dg_base.specs.Sound.{IsSound}
use Rattle.dg_line.specs.Revisions.{Seen, followed}
use Rattle.dg_line.specs.Tickets.{Pin}
use Rattle.dg_touch.specs.Laws.{RulesAgreeOutside}
use Rattle.dg_editor.specs.Changes.{touched_first}
use Rattle.dg_editor.specs.Machine.{undo_of}
use Rattle.dg_editor.specs.Laws.{RedoGivesBack}
use Rattle.dg_editor.specs.Seeing.{Editing, state_of}
use Rattle.dg_editor.proofs.Passing.{pushed-reverse, pushed-all}
use Rattle.dg_editor.proofs.Returning.{touched-first, AfterUndo, undo-done}
use Rattle.dg_editor.proofs.editor.Editor.undo.Given.{Over}
use Rattle.dg_editor.proofs.editor.Editor.undo.Goals as goal

module _ (g : Over) (c : goal.After-go_to g) where
  abbrev before : Editing g.row.N.Denot g.row.N-Mark.Denot
  before = record { line = c.self.inside.line; here = c.self.inside.here; passed = reverse c.self.inside.passed.items; history = c.self.inside.stacks }

  abbrev after : Editing g.row.N.Denot g.row.N-Mark.Denot
  after = record { line = c.add_revision.new.line; here = c.go_to.new.here; passed = reverse c.go_to.new.passed.items; history = c.undo.new.self }

  passed : c.go_to.new.passed.items ≡ c.self.inside.passed.items ++ c.self.inside.here ∷ []
  passed = c.go_to.ensures.passed ∙ ap (λ (l : List (Pin Seen g.row.N-Mark.Denot)). l ++ c.self.inside.here ∷ []) c.add_revision.ensures.passed

  room : before.here.revision.number + 1 < REVISIONS
  room = subst (λ (r : Seen). r.number + 1 < REVISIONS) c.revision-here.ensures (c.is_last.ensures.no c.if-is_last.false)

  graph : c.in_ok-graph.graph ≡ c.in-Some.change.now.before
  graph = c.in_ok-graph.ensures.graph ∙ c.before-2.ensures

  next : c.next.result ≡ before.here.revision.next
  next = c.next.ensures ∙ ap (λ (r : Seen). r.next) c.revision-here.ensures

  revision : after.here.revision ≡ followed g.S.Schema.tables before.here.revision c.in_ok-graph.graph before.here.revision.next c.touched.result.now
  revision =
      ap (λ (p : Pin Seen g.row.N-Mark.Denot). p.revision) c.go_to.ensures.here ∙ c.in_ok-link.ensures.revision
      ∙ ap (λ n. followed g.S.Schema.tables before.here.revision c.in_ok-graph.graph n c.touched.result.now) next

  done : AfterUndo g.S.Schema.tables (state_of before) (state_of after)
  done =
      undo-done g.S.Schema.tables before after c.self.invariant.4 room c.in-Some.change.now (sym c.in-Some.ensures)
      (subst (λ (x : Graph). IsSound g.S.Schema.tables x) c.before-2.ensures c.in_ok-graph.ensures.sound) c.in_ok-graph.graph graph c.touched.result.now c.touched.ensures.touched
      revision (pushed-reverse c.self.inside.passed.items c.go_to.new.passed.items c.self.inside.here passed) c.undo.ensures.lists

pub invariant_of-self-2 : goal.invariant_of-self-2
invariant_of-self-2 g c =
    let d = done g c in (
      c.self.invariant.0,
      c.self.invariant.1,
      subst (g.N.Line.is_of c.add_revision.new.line) (sym c.go_to.ensures.here) c.in_ok-link.ensures.of,
      pushed-all (g.N.Line.is_of c.self.inside.line) (g.N.Line.is_of c.add_revision.new.line) c.self.inside.passed.items c.go_to.new.passed.items c.self.inside.here
          c.add_revision.ensures.stays c.self.invariant.3 c.self.invariant.2 (passed g c),
      d.right,
    )

pub returns-clause-undone : goal.returns-clause-undone
returns-clause-undone g c =
    subst (λ (e : Editing g.row.N.Denot g.row.N-Mark.Denot). undo_of g.S.Schema.tables (state_of e) ≡ Ok (state_of (after g c))) c.self.view_is (let d = done g c in d.gives)

pub returns-clause-back : goal.returns-clause-back
returns-clause-back g c =
    subst (λ (e : Editing g.row.N.Denot g.row.N-Mark.Denot). RedoGivesBack g.S.Schema.tables (state_of (after g c)) e.here.revision) c.self.view_is (let d = done g c in d.back)

pub returns-clause-stays : goal.returns-clause-stays
returns-clause-stays g c t of =
    c.add_revision.ensures.stays t (subst (λ (e : Editing g.row.N.Denot g.row.N-Mark.Denot). g.N.Line.is_of e.line t) (sym c.self.view_is) of)

pub returns-clause-changes : goal.returns-clause-changes
returns-clause-changes g c =
    let d = done g c in
    let near : c.in-Some.change.now.after ≡ c.self.inside.here.revision.graph = d.near c.in-Some.change.now (sym c.in-Some.ensures) in
    let far : c.in-Some.change.now.before ≡ (after g c).here.revision.graph = sym (graph g c) ∙ ap (λ (r : Seen). r.graph) (sym (revision g c)) in
    let touched : c.in-Some.change.now.touched ≡ touched_first c.self.inside.stacks.undo = touched-first c.self.inside.stacks.undo c.in-Some.change.now (sym c.in-Some.ensures) in
    subst (λ (e : Editing g.row.N.Denot g.row.N-Mark.Denot). RulesAgreeOutside g.S.Schema.tables e.here.revision.graph (after g c).here.revision.graph (touched_first e.history.undo)) c.self.view_is
    (subst (λ (x : Graph). RulesAgreeOutside g.S.Schema.tables x (after g c).here.revision.graph (touched_first c.self.inside.stacks.undo)) near
    (subst (λ (x : Graph). RulesAgreeOutside g.S.Schema.tables c.in-Some.change.now.after x (touched_first c.self.inside.stacks.undo)) far
    (subst (RulesAgreeOutside g.S.Schema.tables c.in-Some.change.now.after c.in-Some.change.now.before) touched c.touched.ensures.undone)))
