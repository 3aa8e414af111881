use Rattle.std.proofs.Common.{◌≡◌, map, drop}
use Rattle.dg_labels.specs.Names.{named_in}
use Rattle.dg_labels.proofs.names.named_in.Given as goal

abbrev pub invariant-loop-row : goal.invariant-loop-row
invariant-loop-row g l =
    named_in (map (λ r. (r.0, r.1.now)) (drop l.row-index l.rows)) l.name
    ≡ named_in (map (λ r. (r.0, r.1.now)) l.rows) l.name
