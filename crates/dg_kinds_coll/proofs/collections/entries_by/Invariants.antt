use Rattle.std.proofs.Common.{◌≡◌, map, take}
use Rattle.dg_kinds_go.specs.Values.{good_in}
use Rattle.dg_kinds_coll.specs.Collections.{has_text, instance_entry}
use Rattle.dg_kinds_coll.proofs.collections.entries_by.Given as goal

abbrev pub invariant-loop-held : goal.invariant-loop-held
invariant-loop-held l = l.all ≡ map (instance_entry (has_text l.named)) (map good_in (take l.held-index l.instances))
