use Rattle.std.proofs.Common.{◌+◌, ◌++◌, List, [], ◌∷◌, sym, ap, ◌∙◌, append_assoc}
use Rattle.dg_base.specs.declared.ids.NodeId.{NodeId}
use Rattle.dg_tx.specs.Ids.{ids_between}
use Rattle.dg_tx.proofs.IdRows.{ids_between-more}
use Rattle.dg_tx.proofs.touched.ids_between.Goals as goal

pub loop-id-preserved : goal.loop-id-preserved
loop-id-preserved c =
    let id : NodeId = record { 0 = c.loop-id.id } in
    let rest : List NodeId = ids_between (c.loop-id.id + 1) c.args.end in
    ap (λ (ns : List NodeId). ns ++ rest) c.in_ok-push.ensures.items
    ∙ append_assoc c.loop-id.nodes.items (id ∷ []) rest
    ∙ ap (λ (ns : List NodeId). c.loop-id.nodes.items ++ ns) (sym (ids_between-more c.loop-id.id c.args.end c.loop-id-test.true))
    ∙ c.loop-id.invariant
