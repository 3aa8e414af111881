use Rattle.std.proofs.Common.{List, sym, ap, subst, ◌∙◌, filter, not, slice_set}
use Rattle.dg_base.specs.declared.datum.FieldOf.{FieldOf}
use Rattle.dg_base.specs.declared.graph.Node.{Node}
use Rattle.dg_base.specs.Same.{same_label}
use Rattle.dg_base.specs.Graph.{Graph}
use Rattle.dg_base.specs.Sound.{IsSound}
use Rattle.dg_base.specs.Changes.{without_value}
use Rattle.dg_flat.proofs.ChangedNodes.{changed_at, stands, stands_same, own-rises}
use Rattle.dg_flat.proofs.graph.Graph.clear_value.Goals as goal

pub clear-requires : goal.clear-requires
clear-requires g c =
    let nodes : List Node = c.self.inside.nodes.items in
    let node : Node = c.index_mut-found.result.now in
    let found = stands nodes c.deref.result.now c.args.node c.place_in-place.result node c.deref.ensures.value c.place_in-place.ensures.within c.index_mut-found.ensures.value in
    own-rises c.self.invariant c.place_in-place.result node found

pub returns : goal.returns
returns g c =
    let nodes : List Node = c.self.inside.nodes.items in
    let node : Node = c.index_mut-found.result.now in
    let place = c.place_in-place.result in
    let found = stands nodes c.deref.result.now c.args.node place node c.deref.ensures.value c.place_in-place.ensures.within c.index_mut-found.ensures.value in
    let same = stands_same nodes c.deref.result.now c.args.node place node c.deref.ensures.value c.place_in-place.ensures.at found in
    let graph : List Node → Graph = λ ns. record { nodes = ns; arcs = c.self.inside.arcs.items } in
    ap (λ (fs : List FieldOf). graph (slice_set nodes place (record node { own = fs }))) c.clear.ensures
    ∙ ap graph (sym (changed_at (λ x. record x { own = filter (λ f. not (same_label f.label c.args.label)) x.own }) c.args.node nodes place node c.self.invariant.ids_rise found same))
    ∙ ap (λ (z : Graph). without_value z c.args.node c.args.label) c.self.view_is

pub invariant_of-self : goal.invariant_of-self
invariant_of-self g c = subst (IsSound g.S.Schema.tables) (sym (returns g c)) c.requires.sound
