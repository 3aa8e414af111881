use Rattle.std.proofs.Common.{◌≡◌, map, take}
use Rattle.dg_build.specs.Entries.{entry_of}
use Rattle.dg_build.proofs.entries.texts_of.Given as goal

abbrev pub invariant-loop-entry : goal.invariant-loop-entry
invariant-loop-entry l = map (λ t. t.now) l.all.items ≡ map (λ e. e.1) (map entry_of (take l.entry-index l.entries))
