use Rattle.std.proofs.Common.{◌≡◌, drop}
use Rattle.dg_kinds_coll.specs.Entries.{moved_entries}
use Rattle.dg_kinds_coll.proofs.Moving.{after}
use Rattle.dg_kinds_coll.proofs.entries.moved_entries.Given as goal

abbrev pub invariant-loop-entry : goal.invariant-loop-entry
invariant-loop-entry l =
    after l.all (moved_entries l.prefix l.outer (drop l.entry-index l.entries)) ≡ moved_entries l.prefix l.outer l.entries
