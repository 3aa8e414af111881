use Rattle.std.proofs.Common.{List, drop, sym, ◌∙◌, ◌≤◌, length, arith}
use Rattle.std.proofs.lemmas.List.{at_drop_all}
use Rattle.dg_base.specs.declared.ids.NodeId.{NodeId}
use Rattle.dg_play.specs.Play.{bind_made}
use Rattle.dg_play.proofs.Made.{bind_made-no_node}
use Rattle.dg_play.proofs.state.bind_made.Goals as goal

pub returns-else-place-nodes : goal.returns-else-place-nodes
returns-else-place-nodes c =
    let names = drop c.loop-place.place c.args.names.now in
    let end : length c.args.nodes.now ≤ c.loop-place.place = omega (arith, c.if-place-nodes.false) in
    sym (at_drop_all (λ (ns : List NodeId). bind_made c.loop-place.bound names ns) c.args.nodes.now c.loop-place.place end
    ∙ bind_made-no_node c.loop-place.bound names) ∙ c.loop-place.invariant.0
