use Rattle.std.proofs.Common.{◌≡◌, [], ◌∷◌, ◌++◌, rules}
use Rattle.dg_tool.proofs.LineCounts.{lines_counted}
use Rattle.dg_tool.proofs.size.line_count.Goals as goal

pub returns-in-Some : goal.returns-in-Some
returns-in-Some c =
    let ends : c.args.bytes.now ≡ c.in-Some.front.now ++ c.in-Some.field-0-0.now ∷ [] = search rules in
    lines_counted c.args.bytes.now c.in-Some.front.now c.in-Some.field-0-0.now c.line_feeds.result ends c.line_feeds.ensures
