use Rattle.std.proofs.Common.{◌≡◌, map, take}
use Rattle.dg_base.specs.declared.datum.Datum.TheVariants as datum
use Rattle.dg_kinds_go.proofs.files.prop_items.Given as goal

abbrev pub invariant-loop-prop : goal.invariant-loop-prop
invariant-loop-prop l = l.all ≡ map datum.Prop (take l.prop-index l.props)
