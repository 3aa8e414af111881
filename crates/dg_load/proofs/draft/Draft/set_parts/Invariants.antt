use Rattle.std.proofs.Common.{◌≡◌, Some, drop, fold}
use Rattle.dg_load.specs.Properties.{set_at}
use Rattle.dg_load.specs.Objects.{part_node}
use Rattle.dg_load.specs.Targets.{in_override}
use Rattle.dg_load.proofs.draft.Draft.set_parts.Given as goal

abbrev pub invariant-loop-desc : goal.invariant-loop-desc
invariant-loop-desc l =
    fold (λ d c. set_at (in_override (Some l.over) (part_node l.object c.id)) c.properties d) l.self (drop l.desc-index l.descs) ≡ fold (λ d c. set_at (in_override (Some l.over) (part_node l.object c.id)) c.properties d) l.initial.self l.descs
