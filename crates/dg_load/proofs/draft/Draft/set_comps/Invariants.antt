use Rattle.std.proofs.Common.{◌≡◌, drop, fold, map}
use Rattle.dg_load.specs.Properties.{set_at}
use Rattle.dg_load.specs.Targets.{under, target}
use Rattle.dg_load.proofs.draft.Draft.set_comps.Given as goal

abbrev pub invariant-loop-desc : goal.invariant-loop-desc
invariant-loop-desc l =
    fold (λ d c. set_at (under l.over (target l.inside.objects.now l.inside.filled.now l.inside.place (map (λ i. i.now) l.ids) c.id)) c.properties d) l.self (drop l.desc-index l.descs) ≡ fold (λ d c. set_at (under l.over (target l.inside.objects.now l.inside.filled.now l.inside.place (map (λ i. i.now) l.ids) c.id)) c.properties d) l.initial.self l.descs
