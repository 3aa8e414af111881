use Rattle.std.proofs.Common.{◌≡◌, ◌≤◌, take}
use Rattle.dg_sums.specs.Counts.{asks_in}
use Rattle.dg_sums.proofs.counts.asks_in.Given as goal

abbrev pub invariant-loop-command : goal.invariant-loop-command
invariant-loop-command l = (l.count ≡ asks_in (take l.command-index l.commands)) × (l.count ≤ l.command-index)
