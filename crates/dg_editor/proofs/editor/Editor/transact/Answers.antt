use Rattle.std.proofs.Common.{rules, ◌≡◌, ℕ, ◌+◌, ◌<◌, ◌≤◌, ◌∷◌, ◌++◌, [], List, ap, sym, ◌∙◌, subst, reverse, length, Ok, IsTrue}
use Rattle.dg_base.specs.declared.limits.TheConstants.{REVISIONS}
use Rattle.dg_base.specs.Graph.{Graph}
use Rattle.dg_base.specs.Sound.{IsSound, ids_below}
use Rattle.dg_base.specs.Transact.{Applied, applied}
use Rattle.dg_history.specs.History.{History}
use Rattle.dg_line.specs.Revisions.{Seen, followed}
use Rattle.dg_line.specs.Tickets.{Pin}
use Rattle.dg_editor.specs.Changes.{Changed}
use Rattle.dg_touch.specs.Laws.{RulesAgreeOutside}
use Rattle.dg_editor.specs.Machine.{as_cause, change_by, edited, made_by, touched_by}
use Rattle.dg_editor.specs.Fits.{IsRight}
use Rattle.dg_editor.specs.Seeing.{Editing, state_of}
use Rattle.dg_editor.proofs.Passing.{pushed-reverse, pushed-all, same-all, not-empty}
use Rattle.dg_editor.proofs.Edits.{AfterEdit, as-applied, edit-done}
use Rattle.dg_editor.proofs.editor.Editor.transact.Given.{Over}
use Rattle.dg_editor.proofs.editor.Editor.transact.Goals as goal

module _ (g : Over) (c : goal.After-go_to g) where
  abbrev before : Editing g.row.N.Denot g.row.N-Mark.Denot
  before = record { line = c.self.inside.line; here = c.self.inside.here; passed = reverse c.self.inside.passed.items; history = c.self.inside.stacks }

  abbrev after : Editing g.row.N.Denot g.row.N-Mark.Denot
  after = record { line = c.add_revision.new.line; here = c.go_to.new.here; passed = reverse c.go_to.new.passed.items; history = c.record.new.self }

  passed : c.go_to.new.passed.items ≡ c.self.inside.passed.items ++ c.self.inside.here ∷ []
  passed = c.go_to.ensures.passed ∙ ap (λ (l : List (Pin Seen g.row.N-Mark.Denot)). l ++ c.self.inside.here ∷ []) c.add_revision.ensures.passed

  some : length c.args.steps.now ≡ 0 → ⊥
  some = not-empty c.args.steps.now c.is_empty.result c.is_empty.ensures c.if-is_empty.false

  room : before.here.revision.number + 1 < REVISIONS
  room = subst (λ (r : Seen). r.number + 1 < REVISIONS) c.revision-here.ensures (c.is_last.ensures.no c.if-is_last.false)

  abbrev a : Applied
  a = record { graph = c.in_ok-graph.field-0.graph; next = c.in_ok-graph.field-0.next; made = c.in_ok-graph.field-0.made; touched = c.in_ok-graph.field-0.touched }

  is-applied : as_cause (applied g.S.Schema.tables before.here.revision.graph before.here.revision.next c.args.steps.now) ≡ Ok a
  is-applied = subst (λ (r : Seen). as_cause (applied g.S.Schema.tables r.graph r.next c.args.steps.now) ≡ Ok a) c.revision-here.ensures c.in_ok-graph.ensures.applied

  below : IsTrue (ids_below a.graph a.next)
  below = c.in_ok-graph.ensures.new_below

  later : before.here.revision.next ≤ a.next
  later = subst (λ (r : Seen). r.next ≤ a.next) c.revision-here.ensures c.in_ok-graph.ensures.later

  sound : IsSound g.S.Schema.tables a.graph
  sound = c.in_ok-share-2.ensures.sound

  change : c.of-change.result ≡ change_by (state_of before) a
  change =
      c.of-change.ensures
      ∙ (λ i. record {
        before = (c.in_ok-share.ensures.graph ∙ c.graph.ensures ∙ ap (λ (r : Seen). r.graph) c.revision-here.ensures) i;
        after = c.in_ok-share-2.ensures.graph i;
        touched = c.in_ok-graph.field-0.touched;
      })

  revision : after.here.revision ≡ followed g.S.Schema.tables before.here.revision a.graph a.next c.touched-2.result.now
  revision = ap (λ (p : Pin Seen g.row.N-Mark.Denot). p.revision) c.go_to.ensures.here ∙ c.in_ok-link.ensures.revision

  done : AfterEdit g.S.Schema.tables (state_of before) c.args.steps.now (state_of after)
  done =
      edit-done g.S.Schema.tables before after c.self.invariant.4 c.args.steps.now some room a is-applied sound below later c.of-change.result change
      c.touched-2.result.now c.touched-2.ensures.touched revision
      (pushed-reverse c.self.inside.passed.items c.go_to.new.passed.items c.self.inside.here passed) c.in_ok-record.ensures.ok

pub invariant_of-self-in_err-record : goal.invariant_of-self-in_err-record
invariant_of-self-in_err-record g c = (
  c.self.invariant.0,
  c.self.invariant.1,
  c.add_revision.ensures.stays c.self.inside.here c.self.invariant.2,
  same-all (g.N.Line.is_of c.self.inside.line) (g.N.Line.is_of c.add_revision.new.line) c.self.inside.passed.items c.add_revision.new.passed.items c.add_revision.ensures.stays c.self.invariant.3 c.add_revision.ensures.passed,
  subst (λ (h : History Changed). IsRight g.S.Schema.tables (state_of {N = g.row.N.Denot} {M = g.row.N-Mark.Denot}
      (record { line = c.add_revision.new.line; here = c.self.inside.here; passed = reverse c.add_revision.new.passed.items; history = h }))) (sym c.in_err-record.ensures.err)
      (subst (λ (xs : List (Pin Seen g.row.N-Mark.Denot)). IsRight g.S.Schema.tables (state_of {N = g.row.N.Denot} {M = g.row.N-Mark.Denot}
      (record { line = c.self.inside.line; here = c.self.inside.here; passed = reverse xs; history = c.self.inside.stacks }))) (sym c.add_revision.ensures.passed)
      c.self.invariant.4),
)

pub returns-in_err-record-clause-stays : goal.returns-in_err-record-clause-stays
returns-in_err-record-clause-stays g c t of =
    c.add_revision.ensures.stays t (subst (λ (e : Editing g.row.N.Denot g.row.N-Mark.Denot). g.N.Line.is_of e.line t) (sym c.self.view_is) of)

pub invariant_of-self-2 : goal.invariant_of-self-2
invariant_of-self-2 g c =
    let d = done g c in (
      c.self.invariant.0,
      c.self.invariant.1,
      subst (g.N.Line.is_of c.add_revision.new.line) (sym c.go_to.ensures.here) c.in_ok-link.ensures.of,
      pushed-all (g.N.Line.is_of c.self.inside.line) (g.N.Line.is_of c.add_revision.new.line) c.self.inside.passed.items c.go_to.new.passed.items c.self.inside.here
          c.add_revision.ensures.stays c.self.invariant.3 c.self.invariant.2 (passed g c),
      d.right,
    )

pub returns-clause-edited : goal.returns-clause-edited
returns-clause-edited g c =
    subst (λ (e : Editing g.row.N.Denot g.row.N-Mark.Denot). edited g.S.Schema.tables (state_of e) c.args.steps.now ≡ Ok (state_of (after g c))) c.self.view_is (let d = done g c in d.gives)

pub returns-clause-made : goal.returns-clause-made
returns-clause-made g c =
    subst (λ (e : Editing g.row.N.Denot g.row.N-Mark.Denot). made_by (applied g.S.Schema.tables e.here.revision.graph e.here.revision.next c.args.steps.now) ≡ c.in_ok-graph.field-0.made) c.self.view_is
    (ap made_by (as-applied (applied g.S.Schema.tables c.self.inside.here.revision.graph c.self.inside.here.revision.next c.args.steps.now) (a g c) (is-applied g c)))

pub returns-clause-stays : goal.returns-clause-stays
returns-clause-stays g c t of =
    c.add_revision.ensures.stays t (subst (λ (e : Editing g.row.N.Denot g.row.N-Mark.Denot). g.N.Line.is_of e.line t) (sym c.self.view_is) of)

pub returns-clause-changes : goal.returns-clause-changes
returns-clause-changes g c =
    let t = g.S.Schema.tables in
    let is : c.of-change.result ≡ change_by (state_of (before g c)) (a g c) = change g c in
    let new : (a g c).graph ≡ (after g c).here.revision.graph = ap (λ (r : Seen). r.graph) (sym (revision g c)) in
    let touched : c.touched-2.result.now ≡ touched_by (applied t c.self.inside.here.revision.graph c.self.inside.here.revision.next c.args.steps.now) =
    c.touched-2.ensures.touched ∙ ap (λ (d : Changed). d.touched) is
    ∙ sym (ap touched_by (as-applied (applied t c.self.inside.here.revision.graph c.self.inside.here.revision.next c.args.steps.now) (a g c) (is-applied g c)))
    in
    subst (λ (e : Editing g.row.N.Denot g.row.N-Mark.Denot).
    RulesAgreeOutside t e.here.revision.graph (after g c).here.revision.graph (touched_by (applied t e.here.revision.graph e.here.revision.next c.args.steps.now))) c.self.view_is
    (subst (RulesAgreeOutside t c.self.inside.here.revision.graph (after g c).here.revision.graph) (sym c.touched-2.ensures.touched ∙ touched)
    (subst (λ (x : Graph). RulesAgreeOutside t c.self.inside.here.revision.graph x c.of-change.result.touched) new
    (subst (λ (d : Changed). RulesAgreeOutside t d.before d.after c.of-change.result.touched) is c.touched-2.ensures.done)))
