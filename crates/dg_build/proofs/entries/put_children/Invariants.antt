use Rattle.std.proofs.Common.{◌≡◌, ◌++◌, Some, map, flat_map, take}
use Rattle.dg_kinds_go.specs.Values.{text_in}
use Rattle.dg_build.specs.Lines.{child_line}
use Rattle.dg_build.proofs.entries.put_children.Given as goal

abbrev pub invariant-loop-child : goal.invariant-loop-child
invariant-loop-child l = l.out.items ≡ l.initial.out.items ++ flat_map child_line (map (λ c. text_in (Some c)) (take l.child-index l.children))
