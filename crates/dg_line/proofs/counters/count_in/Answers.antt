use Rattle.std.proofs.Common.{◌≡◌, ◌++◌, ◌∷◌, rules, sym, ◌∙◌}
use Rattle.dg_line.proofs.Splitting.{split-member, halves-front, halves-back, halves-member}
use Rattle.dg_line.proofs.counters.count_in.Goals as goal

pub loop-middle-preserved-in-Less : goal.loop-middle-preserved-in-Less
loop-middle-preserved-in-Less c =
    let is : c.loop-middle.rest.now ≡ c.split_at.result.0.now ++ c.in-Some.middle.now ∷ c.in-Some.above.now =
    split-member _ c.loop-middle.rest.now c.split_at.result.0.now c.split_at.result.1.now c.in-Some.middle.now c.in-Some.above.now c.split_at.ensures.front c.split_at.ensures.back (search rules)
    in
    halves-front c.loop-middle.rest.now c.split_at.result.0.now c.in-Some.middle.now c.in-Some.above.now c.args.at _ c.loop-middle.invariant is (sym c.cmp.ensures ∙ c.in-Less.is)

pub returns-in-Equal : goal.returns-in-Equal
returns-in-Equal c =
    let is : c.loop-middle.rest.now ≡ c.split_at.result.0.now ++ c.in-Some.middle.now ∷ c.in-Some.above.now =
    split-member _ c.loop-middle.rest.now c.split_at.result.0.now c.split_at.result.1.now c.in-Some.middle.now c.in-Some.above.now c.split_at.ensures.front c.split_at.ensures.back (search rules)
    in
    halves-member c.loop-middle.rest.now c.split_at.result.0.now c.in-Some.middle.now c.in-Some.above.now c.args.at _ c.loop-middle.invariant is (sym c.cmp.ensures ∙ c.in-Equal.is)

pub loop-middle-preserved : goal.loop-middle-preserved
loop-middle-preserved c =
    let is : c.loop-middle.rest.now ≡ c.split_at.result.0.now ++ c.in-Some.middle.now ∷ c.in-Some.above.now =
    split-member _ c.loop-middle.rest.now c.split_at.result.0.now c.split_at.result.1.now c.in-Some.middle.now c.in-Some.above.now c.split_at.ensures.front c.split_at.ensures.back (search rules)
    in
    halves-back c.loop-middle.rest.now c.split_at.result.0.now c.in-Some.middle.now c.in-Some.above.now c.args.at _ c.loop-middle.invariant is (sym c.cmp.ensures ∙ c.in-Greater.is)
