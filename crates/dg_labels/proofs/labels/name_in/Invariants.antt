use Rattle.std.proofs.Common.{◌≡◌, map, drop}
use Rattle.dg_base.specs.Same.{same_label}
use Rattle.dg_labels.specs.Names.{name_in}
use Rattle.dg_labels.proofs.labels.name_in.Given as goal

abbrev pub invariant-loop-row : goal.invariant-loop-row
invariant-loop-row l =
    name_in same_label (map (λ r. (r.0, r.1.now)) (drop l.row-index l.rows)) l.label
    ≡ name_in same_label (map (λ r. (r.0, r.1.now)) l.rows) l.label
