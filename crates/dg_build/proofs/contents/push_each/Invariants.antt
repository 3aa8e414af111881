use Rattle.std.proofs.Common.{◌≡◌, ◌++◌, map, filter_map, take}
use Rattle.dg_build.specs.Contents.{content_of, content_in}
use Rattle.dg_build.proofs.contents.push_each.Given as goal

abbrev pub invariant-loop-component : goal.invariant-loop-component
invariant-loop-component l = map content_of l.all.items ≡ map content_of l.initial.all.items ++ filter_map content_in (take l.component-index l.components)
