use Rattle.std.proofs.Common.{◌≡◌, map, take}
use Rattle.dg_build.specs.Contents.{content_of}
use Rattle.dg_build.specs.Entries.{entry_of}
use Rattle.dg_build.specs.Targets.{entries_with_texts}
use Rattle.dg_build.proofs.entries.entries_with_texts.Given as goal

abbrev pub invariant-loop-entry : goal.invariant-loop-entry
invariant-loop-entry l = map entry_of l.all.items ≡ entries_with_texts l.stem (map content_of l.contents.keys) l.names (take l.entry-index l.entries)
