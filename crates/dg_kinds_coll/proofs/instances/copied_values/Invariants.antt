use Rattle.std.proofs.Common.{◌≡◌, map, take}
use Rattle.dg_kinds_go.specs.Values.{good_in, or_nil}
use Rattle.dg_kinds_coll.proofs.instances.copied_values.Given as goal

abbrev pub invariant-loop-held : goal.invariant-loop-held
invariant-loop-held l = l.all ≡ map or_nil (map good_in (take l.held-index l.answers))
