use Rattle.std.proofs.Common.{List, ap, ◌∙◌}
use Rattle.dg_room.specs.Made.{Passed, sum_of}
use Rattle.dg_shared.proofs.Passes.{evictions-one, follows-one}
use Rattle.dg_shared.proofs.closing.gather.Goals as goal

pub loop-back-preserved : goal.loop-back-preserved
loop-back-preserved g c =
    let badge = c.in-Some.back.badge in let before = c.loop-back.passes.items in
    record {
      follows = ap (λ (ps : List Passed). (sum_of ps).follows) c.in_ok-push-2.ensures.items ∙ follows-one before badge.room badge.follows ∙ c.loop-back.invariant.follows;
      evictions = ap (λ (ps : List Passed). (sum_of ps).evictions) c.in_ok-push-2.ensures.items ∙ evictions-one before badge.room badge.evictions ∙ c.loop-back.invariant.evictions;
    }
