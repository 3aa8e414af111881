use Rattle.std.proofs.Common.{◌≡◌, ◌++◌, flat_map, filter_map, take}
use Rattle.dg_base.specs.Rule.{prop_of}
use Rattle.dg_build.specs.Lines.{property_line}
use Rattle.dg_build.proofs.objects.put_property_lines.Given as goal

abbrev pub invariant-loop-item : goal.invariant-loop-item
invariant-loop-item l = l.out.items ≡ l.initial.out.items ++ flat_map (property_line l.names) (filter_map prop_of (take l.item-index l.props))
