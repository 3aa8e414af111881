use Rattle.std.proofs.Common.{◌≡◌, sym, ◌∙◌}
use Rattle.dg_pmap.specs.Places.{IsFoundAt, IsGapAt}
use Rattle.dg_pmap.proofs.Places.{remove_entry-found, remove_entry-gap}
use Rattle.dg_pmap.proofs.entries.take_out.Goals as goal

pub returns-in-Ok-clause-pairs : goal.returns-in-Ok-clause-pairs
returns-in-Ok-clause-pairs g c =
    let f : IsFoundAt g.K.Ord.cmp c.args.key.now c.args.entries.now.items c.in-Ok.at = rw c.deref.ensures.value at c.in-Ok.ensures.found in
    c.remove.ensures.items ∙ sym (remove_entry-found g.K.Ord.cmp c.args.key.now _ c.in-Ok.at f)

pub returns-in_default-clause-pairs : goal.returns-in_default-clause-pairs
returns-in_default-clause-pairs g c =
    let f : IsGapAt g.K.Ord.cmp c.args.key.now c.args.entries.now.items c.in_default.field-0 = rw c.deref.ensures.value at c.in_default.ensures.gap in
    sym (remove_entry-gap g.K.Ord.cmp c.args.key.now g.met.K.Ord.total _ c.in_default.field-0 c.requires f)
