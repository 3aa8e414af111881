use Rattle.std.proofs.Common.{◌≡◌, take}
use Rattle.dg_desk.specs.Machine.{unchanged}
use Rattle.dg_desk.proofs.acts.unchanged_of.Given as goal

abbrev pub invariant-loop-entry : goal.invariant-loop-entry
invariant-loop-entry g l = l.kept.items ≡ unchanged (g.M.Mark.seen l.then.revision) (g.M.Mark.seen l.now.revision) (take l.entry-index l.entries)
