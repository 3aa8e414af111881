use Rattle.std.proofs.Common.{◌≡◌, ◌++◌, drop}
use Rattle.dg_desc.specs.Trees.{all_trees}
use Rattle.dg_desc.proofs.part.put_all.Given as goal

abbrev pub invariant-loop-part : goal.invariant-loop-part
invariant-loop-part g l =
    l.out ++ all_trees g.P.Part.prints l.name (drop l.part-index l.all) ≡ l.initial.out ++ all_trees g.P.Part.prints l.name l.all
