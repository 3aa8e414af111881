use Rattle.dg_deeds.proofs.Parts.{lines_in-lines, tree_after-lines, IsBegun-lines}
use Rattle.dg_deeds.proofs.law.lines_leave_the_tree.Goals as goal

pub returns : goal.returns
returns c = record { lines = lines_in-lines; all = tree_after-lines; part = IsBegun-lines }
