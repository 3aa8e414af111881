use Rattle.std.proofs.Common.{false, ◌≡◌, ◌∙◌, ◌∷◌, [], ◌++◌, List, cond, ap, reverse}
use Rattle.dg_base.specs.declared.ids.NodeId.{NodeId}
use Rattle.dg_base.specs.Order.{is_node_among}
use Rattle.dg_base.specs.Owned.{enough_levels}
use Rattle.dg_over.specs.Follow.{followed}
use Rattle.dg_over.proofs.WalkRounds.{there_first, so_far_first, new_one, Round, there_next, so_far_next, work_next}
use Rattle.dg_over.proofs.walk.walk.Given.{Over as over}
use Rattle.dg_over.proofs.walk.walk.Goals as goal

pub loop-at-init : goal.loop-at-init
loop-at-init g c =
    let stack : c.push.new.self.items ≡ c.args.node ∷ [] = c.in_ok-push.ensures.items ∙ ap (λ (z : List NodeId). z ++ c.args.node ∷ []) c.new-stack.ensures.items in
    record {
      there = there_first c.args.graph.now c.args.node c.push.new.self.items stack;
      so_far = so_far_first (followed g.S.Schema.tables c.args.graph.now c.args.follow) (enough_levels c.args.graph.now) c.args.node c.new-met.result c.push.new.self.items c.new-met.ensures stack;
    }

-- a round at a node that wasn't met
round : (g : over) (c : goal.After-drop-next-then-branch g) →
    Round g.S.Schema.tables c.args.graph.now c.args.follow c.args.node c.in-Some.at c.loop-at.met c.loop-at.stack.items c.pop.new.self.items c.put.new.self c.append.new.self.items
round g c = record {
  sound = c.is_sound.ensures;
  there = c.loop-at.invariant.there;
  popped = c.in-Some.ensures.items;
  new = new;
  noted = c.in_ok-put.ensures.ok ∙ ap (λ b. cond b c.loop-at.met (c.loop-at.met ++ c.in-Some.at ∷ [])) new;
  pushed = c.in_ok-append.ensures.items ∙ ap (λ (z : List NodeId). c.pop.new.self.items ++ z) (c.reverse.ensures.items ∙ ap reverse c.in_ok-next.ensures);
}
  where
    new : is_node_among c.loop-at.met c.in-Some.at ≡ false
    new = new_one (is_node_among c.loop-at.met c.in-Some.at) c.in_ok-put.field-0 c.if-branch.true c.in_ok-put.ensures.added

pub loop-at-smaller-then-branch : goal.loop-at-smaller-then-branch
loop-at-smaller-then-branch g c = work_next (round g c)

pub loop-at-preserved-then-branch : goal.loop-at-preserved-then-branch
loop-at-preserved-then-branch g c = record {
  there = there_next (round g c);
  so_far = so_far_next (round g c) _ c.loop-at.invariant.so_far;
}
