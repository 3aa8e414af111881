use Rattle.std.proofs.Common.{◌≡◌, ◌++◌, take}
use Rattle.dg_kinds_coll.proofs.collections.push_copies.Given as goal

abbrev pub invariant-loop-item : goal.invariant-loop-item
invariant-loop-item l = l.all ≡ l.initial.all ++ take l.item-index l.items
