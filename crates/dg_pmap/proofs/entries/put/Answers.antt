use Rattle.std.proofs.Common.{◌≡◌, refl, sym, ap, ◌∙◌}
use Rattle.std.specs.Option.{is_some}
use Rattle.std.specs.List.Sorted.{IsStrictlySortedBy}
use Rattle.std.specs.Map.{keys_of}
use Rattle.dg_pmap.specs.Places.{IsFoundAt, IsGapAt}
use Rattle.dg_pmap.proofs.Places.{lookup-found, lookup-gap, insert_entry-found, insert_entry-gap}
use Rattle.dg_pmap.proofs.entries.put.Goals as goal

pub returns-in-Ok-clause-puts : goal.returns-in-Ok-clause-puts
returns-in-Ok-clause-puts g c =
    let f : IsFoundAt g.K.Ord.cmp c.args.key c.args.entries.now.items c.in-Ok.at = rw c.deref.ensures.value at c.in-Ok.ensures.found in (
      rw c.index_mut.ensures.value (sym (insert_entry-found g.K.Ord.cmp c.args.key _ c.in-Ok.at c.index_mut.result.now c.args.value f)),
      sym (ap is_some (lookup-found g.K.Ord.cmp c.args.key _ c.in-Ok.at c.index_mut.result.now f)),
    )

pub returns-in_ok-insert_at-in-Err-clause-puts : goal.returns-in_ok-insert_at-in-Err-clause-puts
returns-in_ok-insert_at-in-Err-clause-puts g c =
    let f : IsGapAt g.K.Ord.cmp c.args.key c.args.entries.now.items c.in-Err.at = rw c.deref.ensures.value at c.in-Err.ensures.gap in (
      c.in_ok-insert_at-in-Err.ensures.ok ∙ sym (insert_entry-gap g.K.Ord.cmp c.args.key _ c.in-Err.at c.args.value f),
      sym (ap is_some (lookup-gap g.K.Ord.cmp c.args.key g.met.K.Ord.total _ c.in-Err.at c.requires f)),
    )

pub returns-then-len-ge-CHUNK-clause-puts : goal.returns-then-len-ge-CHUNK-clause-puts
returns-then-len-ge-CHUNK-clause-puts g c =
    let f : IsGapAt g.K.Ord.cmp c.args.key c.args.entries.now.items c.in-Err.at = rw c.deref.ensures.value at c.in-Err.ensures.gap in
    (refl, refl, ap is_some (lookup-gap g.K.Ord.cmp c.args.key g.met.K.Ord.total _ c.in-Err.at c.requires f))
