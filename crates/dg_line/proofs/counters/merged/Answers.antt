use Rattle.std.proofs.Common.{rules, sym, ◌∙◌}
use Rattle.dg_line.proofs.Raising.{merged-last_counted, merged-last_new, merged-counted, merged-new, merged-both}
use Rattle.dg_line.proofs.counters.merged.Goals as goal

pub loop-all-preserved-in-None-Some : goal.loop-all-preserved-in-None-Some
loop-all-preserved-in-None-Some c =
    merged-last_new c.loop-all.all.items c.push.new.self.items _ c.loop-all.left.now c.loop-all.new.now c.loop-all.invariant c.in-None-Some.end.now c.in-None-Some.others.now
    c.in-None-Some.ensures.cases (search rules) (search rules)

pub loop-all-preserved-in-Some-None : goal.loop-all-preserved-in-Some-None
loop-all-preserved-in-Some-None c =
    merged-last_counted c.loop-all.all.items c.push-in-Some-None.new.self.items _ c.loop-all.left.now c.loop-all.new.now c.loop-all.invariant c.in-Some-None.counted.now c.in-Some-None.others.now
    (search rules) c.in-Some-None.ensures'.cases (search rules)

pub loop-all-preserved-in-Less : goal.loop-all-preserved-in-Less
loop-all-preserved-in-Less c =
    merged-counted c.loop-all.all.items c.push-in-Less.new.self.items _ c.loop-all.left.now c.loop-all.new.now c.loop-all.invariant c.in-Some-Some.counted.now c.in-Some-Some.other_counted.now
    c.in-Some-Some.end.now c.in-Some-Some.other_ends.now (search rules) (search rules) (sym c.cmp.ensures ∙ c.in-Less.is) (search rules)

pub loop-all-preserved-in-Equal : goal.loop-all-preserved-in-Equal
loop-all-preserved-in-Equal c =
    merged-both c.loop-all.all.items c.push-in-Equal.new.self.items _ c.loop-all.left.now c.loop-all.new.now c.loop-all.invariant c.in-Some-Some.counted.now c.in-Some-Some.other_counted.now
    c.in-Some-Some.end.now c.in-Some-Some.other_ends.now (search rules) (search rules) (sym c.cmp.ensures ∙ c.in-Equal.is) (search rules)

pub loop-all-preserved : goal.loop-all-preserved
loop-all-preserved c =
    merged-new c.loop-all.all.items c.push-in-Greater.new.self.items _ c.loop-all.left.now c.loop-all.new.now c.loop-all.invariant c.in-Some-Some.counted.now c.in-Some-Some.other_counted.now
    c.in-Some-Some.end.now c.in-Some-Some.other_ends.now (search rules) (search rules) (sym c.cmp.ensures ∙ c.in-Greater.is) (search rules)
