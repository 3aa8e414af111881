use Rattle.std.proofs.Common.{◌∙◌, ◌≤◌, ◌<◌, ◌+◌, [], drop, sym, ap, subst, arith}
use Rattle.dg_base.specs.declared.ids.NodeId.{NodeId}
use Rattle.dg_base.specs.Graph.{Graph}
use Rattle.dg_base.specs.Sound.{max_nodes}
use Rattle.dg_base.specs.Populate.{override_all, MayOverride}
use Rattle.dg_laws.proofs.SoundOverrides.{MayOverride-sound, MayOverride-next}
use Rattle.dg_over.specs.Makes.{progress_of}
use Rattle.dg_over.proofs.OverrideRounds.{refused_at, goes_on_at, may_at}
use Rattle.dg_over.proofs.overriding.override_all.Goals as goal

abbrev none : NodeId
none = record { 0 = 0 }

pub returns-then-id-gt-MAX_NODES : goal.returns-then-id-gt-MAX_NODES
returns-then-id-gt-MAX_NODES g c made =
    let over : max_nodes < c.loop-node.id = omega arith in
    sym (c.loop-node.invariant.so_far made)
    ∙ refused_at c.args.root c.args.nodes.now c.loop-node.node-index none (progress_of c.loop-node.graph c.loop-node.id made) c.loop-node-test.true over

pub put_node-requires : goal.put_node-requires
put_node-requires g c =
    let room : c.loop-node.id ≤ max_nodes = omega arith in
    MayOverride-sound (may_at c.args.nodes.now c.loop-node.node-index none c.loop-node-test.true c.loop-node.invariant.may) room

pub loop-node-preserved : goal.loop-node-preserved
loop-node-preserved g c =
    let room : c.loop-node.id ≤ max_nodes = omega arith in
    let may = MayOverride-next (may_at c.args.nodes.now c.loop-node.node-index none c.loop-node-test.true c.loop-node.invariant.may) room in
    record {
      may = subst (λ (h : Graph). MayOverride g.S.Schema.tables (progress_of h (c.loop-node.id + 1) []) c.args.root (drop (c.loop-node.node-index + 1) c.args.nodes.now)) (sym c.in_ok-put_node.ensures) may;
      so_far = λ made.
          ap (λ (h : Graph). override_all c.args.root (drop (c.loop-node.node-index + 1) c.args.nodes.now) (progress_of h (c.loop-node.id + 1) made)) c.in_ok-put_node.ensures
          ∙ sym (goes_on_at c.args.root c.args.nodes.now c.loop-node.node-index none (progress_of c.loop-node.graph c.loop-node.id made) c.loop-node-test.true room)
          ∙ c.loop-node.invariant.so_far made;
    }
