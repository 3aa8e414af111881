use Rattle.std.proofs.Common.{◌≡◌, List, Ok, Err, sym, ap, subst, ◌∙◌, slice_set, OnOk, OnErr}
use Rattle.dg_base.specs.declared.datum.FieldOf.{FieldOf}
use Rattle.dg_base.specs.declared.graph.Node.{Node}
use Rattle.dg_base.specs.Graph.{Graph, put_value}
use Rattle.dg_base.specs.Sound.{IsSound}
use Rattle.dg_base.specs.Changes.{with_value}
use Rattle.dg_flat.proofs.ChangedNodes.{changed_at, set_again, stands, stands_same}
use Rattle.dg_flat.proofs.graph.Graph.set_value.Goals as goal

pub returns : goal.returns
returns g c =
    let nodes : List Node = c.self.inside.nodes.items in
    let node : Node = c.index_mut-found.result.now in
    let place = c.place_in-place.result in
    let found = stands nodes c.deref.result.now c.args.node place node c.deref.ensures.value c.place_in-place.ensures.within c.index_mut-found.ensures.value in
    let same = stands_same nodes c.deref.result.now c.args.node place node c.deref.ensures.value c.place_in-place.ensures.at found in
    let graph : List Node → Graph = λ ns. record { nodes = ns; arcs = c.self.inside.arcs.items } in
    let put : graph (slice_set nodes place (record node { own = put_value node.own c.args.label c.args.value })) ≡ with_value c.args.self.now c.args.node c.args.label c.args.value =
    ap graph (sym (changed_at (λ x. record x { own = put_value x.own c.args.label c.args.value }) c.args.node nodes place node c.self.invariant.ids_rise found same))
    ∙ ap (λ (z : Graph). with_value z c.args.node c.args.label c.args.value) c.self.view_is in
    elim c.put.result as (λ r. OnOk r (c.put.new.fields ≡ put_value node.own c.args.label c.args.value) → OnOk r (graph (slice_set nodes place (record node { own = c.put.new.fields })) ≡ with_value c.args.self.now c.args.node c.args.label c.args.value)) [
      | Ok done ↦ λ is. ap (λ (fs : List FieldOf). graph (slice_set nodes place (record node { own = fs }))) is ∙ put
      | Err refused ↦ λ is. tt
    ] c.put.ensures.ok

pub invariant_of-self : goal.invariant_of-self
invariant_of-self g c =
    let nodes : List Node = c.self.inside.nodes.items in
    let node : Node = c.index_mut-found.result.now in
    let place = c.place_in-place.result in
    let found = stands nodes c.deref.result.now c.args.node place node c.deref.ensures.value c.place_in-place.ensures.within c.index_mut-found.ensures.value in
    let graph : List Node → Graph = λ ns. record { nodes = ns; arcs = c.self.inside.arcs.items } in
    elim c.put.result as (λ r. OnErr r (c.put.new.fields ≡ node.own) → OnOk r (graph (slice_set nodes place (record node { own = c.put.new.fields })) ≡ with_value c.args.self.now c.args.node c.args.label c.args.value) → IsSound g.S.Schema.tables (graph (slice_set nodes place (record node { own = c.put.new.fields })))) [
      | Ok done ↦ λ kept new. subst (IsSound g.S.Schema.tables) (sym new) c.requires.sound
      | Err refused ↦ λ kept new. subst (IsSound g.S.Schema.tables)
          (sym (ap (λ (fs : List FieldOf). graph (slice_set nodes place (record node { own = fs }))) kept ∙ ap graph (set_again nodes place node found))) c.self.invariant
    ] c.put.ensures.err (returns g c)
