use Rattle.std.proofs.Common.{◌≡◌, ◌++◌, drop, filter}
use Rattle.dg_base.specs.Rule.{is_open_label}
use Rattle.dg_flat.proofs.nodes.open_among.Given as goal

abbrev pub invariant-loop-field : goal.invariant-loop-field
invariant-loop-field l = l.fields ++ filter (λ f. is_open_label f.label) (drop l.field-index l.own) ≡ filter (λ f. is_open_label f.label) l.own
