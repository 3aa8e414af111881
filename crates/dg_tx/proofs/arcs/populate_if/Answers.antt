use Rattle.std.proofs.Common.{◌++◌, List, sym, ap, ◌∙◌, append-nil}
use Rattle.dg_base.specs.declared.ids.NodeId.{NodeId}
use Rattle.dg_base.specs.declared.ids.Endpoint.{Endpoint}
use Rattle.dg_base.specs.Progress.{Progress}
use Rattle.dg_base.specs.Touched.{touched_nodes}
use Rattle.dg_over.specs.Makes.{progress_of}
use Rattle.dg_tx.specs.Outcome.{progress}
use Rattle.dg_tx.proofs.NewIds.{Grows, Grows-later, nodes_from-grown, populate-grows}
use Rattle.dg_tx.proofs.ConnectedArcs.{touched_no_nodes}
use Rattle.dg_tx.proofs.arcs.populate_if.Goals as goal

pub returns-then-not-populates-clause-touched : goal.returns-then-not-populates-clause-touched
returns-then-not-populates-clause-touched g c =
    sym (append-nil c.args.work.now.touched.items)
    ∙ ap (λ (es : List Endpoint). c.args.work.now.touched.items ++ es) (sym (touched_no_nodes g.S.Schema.tables c.args.work.now.graph c.args.work.now.next c.requires.below))

pub touch_row-requires : goal.touch_row-requires
touch_row-requires g c =
    Grows-later (populate-grows g.S.Schema.tables c.args.arc.node c.args.arc.input (progress c.args.work.now) _ (c.in_ok-work.ensures c.args.work.now.made.items))

pub returns-clause-touched : goal.returns-clause-touched
returns-clause-touched g c =
    let p : Progress = progress c.args.work.now in
    let q : Progress = progress_of c.populate.new.graph c.in_ok-work.field-0 p.made in
    let grows : Grows p q = populate-grows g.S.Schema.tables c.args.arc.node c.args.arc.input p q (c.in_ok-work.ensures p.made) in
    c.in_ok-touch_row.ensures
    ∙ ap (λ (ns : List NodeId). c.args.work.now.touched.items ++ touched_nodes g.S.Schema.tables c.populate.new.graph ns) (sym (nodes_from-grown c.requires.below grows))
