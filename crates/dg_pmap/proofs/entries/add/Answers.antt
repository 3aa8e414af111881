use Rattle.std.proofs.Common.{◌≡◌, sym, ◌∙◌}
use Rattle.dg_pmap.specs.Places.{IsFoundAt, IsGapAt}
use Rattle.dg_pmap.proofs.Places.{insert_entry-found, insert_entry-gap}
use Rattle.dg_pmap.proofs.entries.add.Goals as goal

pub returns-in-Ok-clause-pairs : goal.returns-in-Ok-clause-pairs
returns-in-Ok-clause-pairs g c =
    let f : IsFoundAt g.K.Ord.cmp c.args.key c.args.entries.now.items c.in-Ok.at = rw c.deref.ensures.value at c.in-Ok.ensures.found in
    rw c.index_mut.ensures.value (sym (insert_entry-found g.K.Ord.cmp c.args.key _ c.in-Ok.at c.index_mut.result.now c.args.value f))

pub returns-in_ok-insert_at-in-Err-clause-pairs : goal.returns-in_ok-insert_at-in-Err-clause-pairs
returns-in_ok-insert_at-in-Err-clause-pairs g c =
    let f : IsGapAt g.K.Ord.cmp c.args.key c.args.entries.now.items c.in-Err.at = rw c.deref.ensures.value at c.in-Err.ensures.gap in
    c.in_ok-insert_at-in-Err.ensures.ok ∙ sym (insert_entry-gap g.K.Ord.cmp c.args.key _ c.in-Err.at c.args.value f)
