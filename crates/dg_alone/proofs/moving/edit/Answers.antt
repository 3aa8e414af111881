use Rattle.std.proofs.Common.{◌≡◌, List, Result}
use Rattle.dg_base.specs.declared.ids.NodeId.{NodeId}
use Rattle.dg_base.specs.Transact.{applied}
use Rattle.dg_kinds_coll.specs.Defold.{defold_tables}
use Rattle.dg_editor.specs.declared.cause.EditCause.{EditCause}
use Rattle.dg_editor.specs.Machine.{edited, made_by}
use Rattle.dg_editor.specs.Seeing.{state_of as editor_of}
use Rattle.dg_alone.specs.Outcomes.{change_outcome}
use Rattle.dg_alone.specs.Works.{IsMovedOn, IsWhole}
use Rattle.dg_alone.proofs.Viewing.{on-answer}
use Rattle.dg_alone.proofs.Working.{edited-on, edited-whole}
use Rattle.dg_alone.proofs.moving.edit.Goals as goal

pub returns-clause-whole : goal.returns-clause-whole
returns-clause-whole c =
    let w = c.args.world.now in let v = c.edit-outcome.new.self in
    let r = edited defold_tables (editor_of w.editor) c.args.steps.now in let made = made_by (applied defold_tables w.editor.here.revision.graph w.editor.here.revision.next c.args.steps.now) in
    on-answer c.change_of.result (λ (x : Result (List NodeId) EditCause). c.edit-outcome.result ≡ change_outcome x) (IsWhole v) c.change_of.ensures
    (λ x is. edited-whole defold_tables w v r made x c.edit-outcome.result c.edit-outcome.ensures is c.requires)

pub returns-clause-work : goal.returns-clause-work
returns-clause-work c =
    let w = c.args.world.now in let v = c.edit-outcome.new.self in
    let r = edited defold_tables (editor_of w.editor) c.args.steps.now in let made = made_by (applied defold_tables w.editor.here.revision.graph w.editor.here.revision.next c.args.steps.now) in
    on-answer c.change_of.result (λ (x : Result (List NodeId) EditCause). c.edit-outcome.result ≡ change_outcome x) (IsMovedOn w v) c.change_of.ensures
    (λ x is. edited-on defold_tables w v r made x c.edit-outcome.result c.is_world.ensures.desk c.edit-outcome.ensures is)
