use Rattle.std.proofs.Common.{◌≡◌, ◌++◌, take}
use Rattle.dg_pmap.proofs.entries.add_all.Given as goal

abbrev pub invariant-loop-entry : goal.invariant-loop-entry
invariant-loop-entry g l = l.all.items ≡ l.initial.all.items ++ take l.entry-index l.entries
