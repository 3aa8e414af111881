use Rattle.std.proofs.Common.{List, ap, drop, ◌∙◌}
use Rattle.indexmap.specs.IndexSet.{insert_all}
use Rattle.dg_base.specs.Same.{same_end}
use Rattle.dg_succ.specs.Pairs.{Pair}
use Rattle.dg_succ.specs.Walked.{ends_of, ends_after}
use Rattle.dg_succ.proofs.Walking.{ends-found}
use Rattle.dg_succ.proofs.succ.Succ.add_ends.Goals as goal

pub returns : goal.returns
returns c =
    c.in_ok-add_run.ensures
    ∙ ap (insert_all same_end c.args.found.now.keys)
    (ap (λ n. ends_after c.args.here (drop n c.self.inside.pairs)) c.position-start.ensures.value
    ∙ ends-found c.args.here c.self.inside.pairs c.self.invariant
    ∙ ap (λ (ps : List Pair). ends_of ps c.args.here) c.self.view_is)
