use Rattle.std.proofs.Common.{ap, ◌∙◌}
use Rattle.std.specs.BTreeMap.{insert_entry}
use Rattle.dg_laws.proofs.Ends.{end_cmp}
use Rattle.dg_cache.specs.Layout.{entries_from}
use Rattle.dg_cache.proofs.Pairs.{entries-inserted}
use Rattle.dg_cache.proofs.values.insert.Goals as goal

pub returns : goal.returns
returns c =
    ap entries_from c.in_ok-insert.ensures.ok
    ∙ ap (λ v. entries_from (insert_entry end_cmp c.args.values.now c.args.entry.at v)) c.in_ok-kept.ensures
    ∙ entries-inserted c.args.entry c.args.values.now c.requires
