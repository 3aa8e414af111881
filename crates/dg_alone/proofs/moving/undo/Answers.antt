use Rattle.std.proofs.Common.{[]}
use Rattle.dg_kinds_coll.specs.Defold.{defold_tables}
use Rattle.dg_editor.specs.Machine.{undo_of}
use Rattle.dg_editor.specs.Seeing.{state_of as editor_of}
use Rattle.dg_alone.specs.Works.{view_of}
use Rattle.dg_alone.proofs.Viewing.{edited-made, edited-moved}
use Rattle.dg_alone.proofs.Working.{edited-on, edited-whole}
use Rattle.dg_alone.proofs.moving.undo.Goals as goal

pub returns-clause-whole : goal.returns-clause-whole
returns-clause-whole c =
    let w = c.args.world.now in let v = c.undo-outcome.new.self in
    edited-whole defold_tables w v (undo_of defold_tables (editor_of w.editor)) [] c.in_ok-changed.changed c.undo-outcome.result c.undo-outcome.ensures c.in_ok-changed.ensures c.requires

pub returns-clause-moved : goal.returns-clause-moved
returns-clause-moved c =
    let w = c.args.world.now in let v = c.undo-outcome.new.self in
    let r = undo_of defold_tables (editor_of w.editor) in
    c.without_nodes.ensures r (view_of w) (view_of v) (edited-moved defold_tables w v r [] c.in_ok-changed.changed c.undo-outcome.result c.undo-outcome.ensures c.in_ok-changed.ensures)

pub returns-clause-work : goal.returns-clause-work
returns-clause-work c =
    let w = c.args.world.now in let v = c.undo-outcome.new.self in
    edited-on defold_tables w v (undo_of defold_tables (editor_of w.editor)) [] c.in_ok-changed.changed c.undo-outcome.result c.is_world.ensures.desk c.undo-outcome.ensures c.in_ok-changed.ensures

pub returns-clause-made : goal.returns-clause-made
returns-clause-made c =
    let w = c.args.world.now in let v = c.undo-outcome.new.self in
    edited-made defold_tables w v (undo_of defold_tables (editor_of w.editor)) [] c.in_ok-changed.changed c.undo-outcome.result c.undo-outcome.ensures c.in_ok-changed.ensures
