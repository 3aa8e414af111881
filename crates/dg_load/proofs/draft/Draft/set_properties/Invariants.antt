use Rattle.std.proofs.Common.{◌≡◌, drop, fold}
use Rattle.dg_load.specs.Properties.{set_open}
use Rattle.dg_load.proofs.draft.Draft.set_properties.Given as goal

abbrev pub invariant-loop-property : goal.invariant-loop-property
invariant-loop-property l =
    fold (λ d p. set_open l.at p.id p.kind p.value d) l.self (drop l.property-index l.properties) ≡ fold (λ d p. set_open l.at p.id p.kind p.value d) l.initial.self l.properties
