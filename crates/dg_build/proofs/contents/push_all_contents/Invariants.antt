use Rattle.std.proofs.Common.{◌≡◌, ◌++◌, map, flat_map, take}
use Rattle.dg_build.specs.Contents.{content_of, contents_of, object_in}
use Rattle.dg_build.proofs.contents.push_all_contents.Given as goal

abbrev pub invariant-loop-entry : goal.invariant-loop-entry
invariant-loop-entry l = map content_of l.all.items ≡ map content_of l.initial.all.items ++ flat_map (λ e. contents_of (object_in e)) (take l.entry-index l.entries)
