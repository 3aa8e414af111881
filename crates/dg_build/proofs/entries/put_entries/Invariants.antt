use Rattle.std.proofs.Common.{◌≡◌, ◌++◌, map, flat_map, take}
use Rattle.dg_build.specs.Entries.{entry_of, entry_lines}
use Rattle.dg_build.proofs.entries.put_entries.Given as goal

abbrev pub invariant-loop-entry : goal.invariant-loop-entry
invariant-loop-entry l = l.out.items ≡ l.initial.out.items ++ flat_map (entry_lines l.stem (map (λ t. t.now) l.texts.keys)) (map entry_of (take l.entry-index l.entries))
