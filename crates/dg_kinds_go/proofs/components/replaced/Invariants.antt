use Rattle.std.proofs.Common.{◌≡◌, drop, map}
use Rattle.std.specs.Prelude.{filter_map}
use Rattle.std.specs.Option.{option_map}
use Rattle.dg_base.specs.declared.datum.Datum.TheVariants as datum
use Rattle.dg_base.specs.Rule.{prop_of}
use Rattle.dg_kinds_go.specs.Components.{replaced}
use Rattle.dg_kinds_go.proofs.Replacing.{behind}
use Rattle.dg_kinds_go.proofs.components.replaced.Given as goal

abbrev pub invariant-loop-item : goal.invariant-loop-item
invariant-loop-item l =
    behind l.all (replaced l.own (filter_map prop_of (drop l.item-index l.declared)))
    ≡ option_map (map datum.Prop) (replaced l.own (filter_map prop_of l.declared))
