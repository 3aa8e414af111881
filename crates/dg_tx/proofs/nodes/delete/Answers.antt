use Rattle.std.proofs.Common.{List, sym, subst, ◌∙◌}
use Rattle.dg_base.specs.declared.ids.NodeId.{NodeId}
use Rattle.dg_base.specs.Sound.{IsSound}
use Rattle.dg_base.specs.Changes.{without_nodes}
use Rattle.dg_laws.proofs.SoundDeletes.{without_doomed-sound}
use Rattle.dg_tx.proofs.nodes.delete.Goals as goal

pub drop_nodes-requires : goal.drop_nodes-requires
drop_nodes-requires g c =
    subst (λ (ns : List NodeId). IsSound g.S.Schema.tables (without_nodes c.args.work.now.graph ns)) (sym c.in_ok-gone.ensures ∙ sym c.deref-2.ensures.value)
    (without_doomed-sound c.requires.ready.sound c.args.node)
