use Rattle.std.proofs.Common.{List, sym, ap, subst, ◌∙◌}
use Rattle.dg_base.specs.declared.graph.Node.{Node}
use Rattle.dg_base.specs.Graph.{Graph}
use Rattle.dg_base.specs.Sound.{IsSound}
use Rattle.dg_base.specs.Changes.{with_mark}
use Rattle.dg_flat.proofs.ChangedNodes.{changed_at, stands, stands_same}
use Rattle.dg_flat.proofs.graph.Graph.set_mark.Goals as goal

pub returns : goal.returns
returns g c =
    let nodes : List Node = c.self.inside.nodes.items in
    let node : Node = c.index_mut.result.now in
    let place = c.place_in-place.result in
    let found = stands nodes c.deref.result.now c.args.node place node c.deref.ensures.value c.place_in-place.ensures.within c.index_mut.ensures.value in
    let same = stands_same nodes c.deref.result.now c.args.node place node c.deref.ensures.value c.place_in-place.ensures.at found in
    ap (λ (ns : List Node). let graph : Graph = record { nodes = ns; arcs = c.self.inside.arcs.items } in graph)
    (sym (changed_at (λ x. record x { defective = c.args.defective }) c.args.node nodes place node c.self.invariant.ids_rise found same))
    ∙ ap (λ (z : Graph). with_mark z c.args.node c.args.defective) c.self.view_is

pub invariant_of-self : goal.invariant_of-self
invariant_of-self g c = subst (IsSound g.S.Schema.tables) (sym (returns g c)) c.requires.sound
