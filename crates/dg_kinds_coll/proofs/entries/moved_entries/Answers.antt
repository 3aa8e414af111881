use Rattle.std.proofs.Common.{◌+◌, drop, sym, ap, ◌∙◌}
use Rattle.dg_kinds_coll.specs.Entries.{moved_entries}
use Rattle.dg_kinds_coll.proofs.Moving.{after, more_moved}
use Rattle.dg_kinds_coll.proofs.entries.moved_entries.Goals as goal

pub loop-entry-preserved : goal.loop-entry-preserved
loop-entry-preserved c =
    let prefix = c.args.prefix.now in
    let outer = c.args.outer.now in
    let entries = c.args.entries.now in
    let i = c.loop-entry.entry-index in
    ap (λ l. after l (moved_entries prefix outer (drop (i + 1) entries))) c.in_ok-push_item-in-Some.ensures
    ∙ more_moved prefix outer entries i c.entry-item.result c.loop-entry.all c.in-Some.moved _
    c.loop-entry-test.true c.entry-item.is (sym c.in-Some.is ∙ c.in_ok-moved.ensures) c.loop-entry.invariant
