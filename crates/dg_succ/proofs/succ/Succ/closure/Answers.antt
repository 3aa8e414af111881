use Rattle.std.proofs.Common.{ap, ◌∙◌}
use Rattle.dg_base.specs.Order.{ordered}
use Rattle.dg_succ.proofs.Leasts.{least-ordered}
use Rattle.dg_succ.proofs.succ.Succ.closure.Goals as goal

pub returns : goal.returns
returns c =
    least-ordered c.args.self.now c.args.from.now c.in_ok-found.found.keys c.in_order.result.items c.in_ok-found.ensures
    (c.in_order.ensures ∙ ap ordered (c.in_ok-ends.ensures.items_if_clones_equal (λ x y h. h) ∙ c.as_slice.ensures.keys))
