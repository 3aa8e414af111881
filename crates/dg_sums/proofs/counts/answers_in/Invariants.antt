use Rattle.std.proofs.Common.{◌≡◌, ◌≤◌, map, take}
use Rattle.dg_kinds_coll.specs.Defold.{defold_tables}
use Rattle.dg_play.specs.Seen.{line_of}
use Rattle.dg_sums.specs.Counts.{answers_in}
use Rattle.dg_sums.proofs.counts.answers_in.Given as goal

abbrev pub invariant-loop-line : goal.invariant-loop-line
invariant-loop-line l =
    (l.count ≡ answers_in defold_tables l.outcome (map line_of (take l.line-index l.lines))) × (l.count ≤ l.line-index)
