use Rattle.std.proofs.Common.{◌≡◌, drop, fold}
use Rattle.dg_load.specs.Components.{reference}
use Rattle.dg_load.proofs.state.Load.references.Given as goal

abbrev pub invariant-loop-desc : goal.invariant-loop-desc
invariant-loop-desc l =
    fold (reference l.listed l.home) l.self (drop l.desc-index l.descs) ≡ fold (reference l.listed l.home) l.initial.self l.descs
