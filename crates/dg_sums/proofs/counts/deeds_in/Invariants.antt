use Rattle.std.proofs.Common.{◌≡◌, ◌+◌, ◌-◌, ◌≤◌, map, drop, length}
use Rattle.dg_play.specs.Seen.{line_of}
use Rattle.dg_sums.specs.Counts.{deeds_in}
use Rattle.dg_sums.proofs.counts.deeds_in.Given as goal

abbrev pub invariant-loop-place : goal.invariant-loop-place
invariant-loop-place l =
    (l.count + deeds_in l.deed (drop l.place l.commands) (map line_of (drop l.place l.lines)) ≡ deeds_in l.deed l.commands (map line_of l.lines))
    × (l.count ≤ l.place) × (l.place ≤ length l.commands) × (l.place ≤ length l.lines)

abbrev pub decreases-loop-place : goal.decreases-loop-place
decreases-loop-place l = length l.commands - l.place
