use Rattle.std.proofs.Common.{◌≡◌, [], ◌∷◌, ◌++◌, rules}
use Rattle.dg_script.proofs.LineEnds.{returned, unreturned}
use Rattle.dg_script.proofs.lines.without_return.Goals as goal

pub returns-then-last-eq13 : goal.returns-then-last-eq13
returns-then-last-eq13 c =
    let ends : c.args.line.now ≡ c.in-Some.front.now ++ c.in-Some.last.now ∷ [] = search rules in
    returned c.args.line.now c.in-Some.front.now c.in-Some.last.now ends c.if-last-eq13.true

pub returns-else-last-eq13 : goal.returns-else-last-eq13
returns-else-last-eq13 c =
    let ends : c.args.line.now ≡ c.in-Some.front.now ++ c.in-Some.last.now ∷ [] = search rules in
    unreturned c.args.line.now c.in-Some.front.now c.in-Some.last.now ends c.if-last-eq13.false
