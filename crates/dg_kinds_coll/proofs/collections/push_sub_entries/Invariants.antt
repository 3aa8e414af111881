use Rattle.std.proofs.Common.{◌≡◌, ◌++◌, map, drop}
use Rattle.dg_kinds_go.specs.Values.{good_in}
use Rattle.dg_kinds_coll.specs.Collections.{sub_entries}
use Rattle.dg_kinds_coll.proofs.collections.push_sub_entries.Given as goal

abbrev pub invariant-loop-held : goal.invariant-loop-held
invariant-loop-held l =
    l.all ++ sub_entries (map good_in (drop l.held-index l.subs)) ≡ l.initial.all ++ sub_entries (map good_in l.subs)
