use Rattle.std.proofs.Common.{◌≡◌, ◌≤◌, ◌+◌, ◌-◌, ◌++◌, List, length, take, drop, sym, ap, ◌∙◌, arith}
use Rattle.std.specs.Arc.{arc_value}
use Rattle.dg_pmap.specs.Shape.{pairs_in}
use Rattle.dg_pmap.proofs.Lists.{drop-append-ge}
use Rattle.dg_pmap.proofs.tree.Tree.+run_at.Goals as goal

pub returns-else-index-lower-clause-run : goal.returns-else-index-lower-clause-run
returns-else-index-lower-clause-run g t c =
    let low = (arc_value c.in-Fork.low).0 in
    let high = (arc_value c.in-Fork.high).0 in
    let all : low ++ high ≡ c.args.self.now.0 = sym (ap pairs_in c.in-Fork.is) ∙ ap (λ v. v.0) c.self.view_is in
    let len : c.len-lower.result ≡ length low = rw c.deref-in-Fork.ensures at c.len-lower.ensures in
    let cut = drop-append-ge c.args.index c.len-lower.result low high len c.if-index-lower.false in
    (rw c.deref-else-index-lower.ensures at c.run_at-else-index-lower.ensures.run)
    ∙ ap (take (length c.run_at-else-index-lower.result.now)) (sym cut ∙ ap (drop c.args.index) all)
