use Rattle.std.proofs.Common.{◌≡◌, ◌++◌, drop, map}
use Rattle.dg_desc.specs.Trees.{child_tree}
use Rattle.dg_desc.proofs.fields.put_children.Given as goal

abbrev pub invariant-loop-child : goal.invariant-loop-child
invariant-loop-child l = l.out ++ map child_tree (drop l.child-index l.children) ≡ l.initial.out ++ map child_tree l.children
