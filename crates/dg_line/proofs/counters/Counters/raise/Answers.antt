use Rattle.std.proofs.Common.{◌≡◌, ◌+◌, List, All, rules, sym, ap, ◌∙◌, subst}
use Rattle.dg_base.specs.Order.{ends_rise}
use Rattle.dg_line.specs.declared.counters.Counted.{Counted}
use Rattle.dg_line.specs.Counts.{count_in, counted_ends, raised, IsAtMost}
use Rattle.dg_line.proofs.Raising.{raised-counts, raised-rise, raised-at_most}
use Rattle.dg_line.proofs.counters.Counters.raise.Goals as goal

pub invariant_of-self : goal.invariant_of-self
invariant_of-self c =
    let is : c.in_ok-self-inside.field-0.value.items ≡ raised c.args.self.now c.args.ends.now = search rules in
    ap (λ (cs : List Counted). ends_rise (counted_ends cs)) is ∙ raised-rise c.args.self.now c.args.ends.now

pub returns-clause-counts : goal.returns-clause-counts
returns-clause-counts c =
    let is : c.in_ok-self-inside.field-0.value.items ≡ raised c.args.self.now c.args.ends.now = search rules in
    λ e. ap (λ (cs : List Counted). count_in cs e) is ∙ raised-counts c.args.self.now c.args.ends.now e

pub returns-clause-low : goal.returns-clause-low
returns-clause-low c =
    let is : c.in_ok-self-inside.field-0.value.items ≡ raised c.args.self.now c.args.ends.now = search rules in
    λ n h. subst (λ (cs : List Counted). All (IsAtMost (n + 1)) cs) (sym is) (raised-at_most n c.args.self.now c.args.ends.now h)
