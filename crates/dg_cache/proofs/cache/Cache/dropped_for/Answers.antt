use Rattle.std.proofs.Common.{◌≤◌, ◌||◌, sym, ap, ◌∙◌, arith, cond, None, nat_lt, length, le-ltb}
use Rattle.dg_cache.specs.Layout.{last_end}
use Rattle.dg_cache.proofs.Laying.{held}
use Rattle.dg_cache.proofs.cache.Cache.dropped_for.Goals as goal

pub returns-then-has : goal.returns-then-has
returns-then-has c =
    let there = sym c.has.ensures ∙ c.if-has.true in
    sym (ap (λ b. cond (b || nat_lt (length c.args.self.now.entries) c.args.self.now.capacity) None (last_end c.args.self.now.entries)) there)

pub returns : goal.returns
returns c =
    let h = held c.self.invariant.0 c.self.view_is in
    let new = sym c.has.ensures ∙ c.if-has.false in
    let m = c.len.ensures in let k = h.capacity in let f = c.if-len-self.false in
    let full : c.args.self.now.capacity ≤ length c.args.self.now.entries = omega (arith, m, k, f) in
    c.last.ensures
    ∙ sym (ap (λ b. cond (b || nat_lt (length c.args.self.now.entries) c.args.self.now.capacity) None (last_end c.args.self.now.entries)) new
    ∙ ap (λ b. cond b None (last_end c.args.self.now.entries)) (le-ltb (length c.args.self.now.entries) c.args.self.now.capacity full))
