use Rattle.std.proofs.Common.{◌≡◌, Some, map, take}
use Rattle.dg_kinds_go.specs.Values.{text_in}
use Rattle.dg_kinds_coll.specs.Entries.{behind}
use Rattle.dg_kinds_coll.proofs.entries.all_behind.Given as goal

abbrev pub invariant-loop-text : goal.invariant-loop-text
invariant-loop-text l = l.all ≡ map (behind l.prefix) (map (λ t. text_in (Some t)) (take l.text-index l.texts))
