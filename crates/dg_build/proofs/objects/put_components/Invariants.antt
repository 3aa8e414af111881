use Rattle.std.proofs.Common.{◌≡◌, ◌++◌, map, flat_map, take}
use Rattle.dg_build.specs.Contents.{content_of}
use Rattle.dg_build.specs.Objects.{component_lines}
use Rattle.dg_build.proofs.objects.put_components.Given as goal

abbrev pub invariant-loop-component : goal.invariant-loop-component
invariant-loop-component l = l.out.items ≡ l.initial.out.items ++ flat_map (component_lines l.stem (map content_of l.contents.keys) l.names) (take l.component-index l.components)
