use Rattle.std.proofs.Common.{◌≡◌, drop, fold}
use Rattle.dg_load.specs.Targets.{ids_in}
use Rattle.dg_load.specs.Subs.{comps_set}
use Rattle.dg_load.proofs.draft.Draft.set_insts.Given as goal

abbrev pub invariant-loop-desc : goal.invariant-loop-desc
invariant-loop-desc l =
    fold (λ d i. comps_set l.inside.objects.now l.inside.filled.now l.inside.place l.over (ids_in i.id) i.properties d) l.self (drop l.desc-index l.descs) ≡ fold (λ d i. comps_set l.inside.objects.now l.inside.filled.now l.inside.place l.over (ids_in i.id) i.properties d) l.initial.self l.descs
