use Rattle.std.proofs.Common.{◌++◌, List, [], sym, ap, ◌∙◌, subst}
use Rattle.dg_base.specs.declared.ids.NodeId.{NodeId}
use Rattle.dg_base.specs.Progress.{Progress, IsReady}
use Rattle.dg_base.specs.Populate.{MayOverride}
use Rattle.dg_base.specs.Touched.{touched_nodes}
use Rattle.dg_laws.proofs.SoundOverrides.{MayOverride-tree}
use Rattle.dg_over.specs.Makes.{progress_of}
use Rattle.dg_tx.specs.Outcome.{progress}
use Rattle.dg_tx.proofs.NewIds.{Grows, Grows-later, nodes_from-grown, override_all-grows}
use Rattle.dg_tx.proofs.nodes.override_tree.Goals as goal

pub override_all-requires : goal.override_all-requires
override_all-requires g c =
    let p : Progress = progress_of c.args.work.now.graph c.args.work.now.next [] in
    let ready : IsReady g.S.Schema.tables p = record { sound = c.requires.ready.sound; below = c.requires.ready.below; some = c.requires.ready.some } in
    subst (MayOverride g.S.Schema.tables p (record { 0 = c.args.work.now.next })) (sym (c.deref.ensures.value ∙ c.in_ok-tree.ensures)) (MayOverride-tree ready c.args.node c.requires.there)

pub touch_row-requires : goal.touch_row-requires
touch_row-requires g c =
    Grows-later (override_all-grows c.deref.result.now (record { 0 = c.args.work.now.next }) (progress c.args.work.now) _ (c.in_ok-work.ensures c.args.work.now.made.items))

pub returns-clause-touched : goal.returns-clause-touched
returns-clause-touched g c =
    let p : Progress = progress c.args.work.now in
    let q : Progress = progress_of c.override_all.new.graph c.in_ok-work.field-0 p.made in
    let grows : Grows p q = override_all-grows c.deref.result.now (record { 0 = p.next }) p q (c.in_ok-work.ensures p.made) in
    c.in_ok-touch_row.ensures
    ∙ ap (λ (ns : List NodeId). c.args.work.now.touched.items ++ touched_nodes g.S.Schema.tables c.override_all.new.graph ns) (sym (nodes_from-grown c.requires.ready.below grows))
