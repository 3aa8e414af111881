use Rattle.std.proofs.Common.{◌≡◌, map, take}
use Rattle.dg_kinds_go.specs.Values.{good_in}
use Rattle.dg_kinds_go.specs.Objects.{id_in}
use Rattle.dg_kinds_go.proofs.objects.ids_of.Given as goal

abbrev pub invariant-loop-held : goal.invariant-loop-held
invariant-loop-held l = map (λ t. t.now) l.ids.items ≡ map id_in (map good_in (take l.held-index l.records))
