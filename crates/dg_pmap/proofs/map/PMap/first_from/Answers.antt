use Rattle.std.proofs.Common.{ap, ◌∙◌}
use Rattle.std.specs.List.{slice_get}
use Rattle.dg_pmap.proofs.Sorted.{first_at_least-place}
use Rattle.dg_pmap.proofs.map.PMap.first_from.Goals as goal

pub returns : goal.returns
returns g c = c.at.ensures ∙ ap (slice_get c.args.self.now) c.position.ensures.value ∙ first_at_least-place g.K.Ord.cmp c.args.key.now c.args.self.now
