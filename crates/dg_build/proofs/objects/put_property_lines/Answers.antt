use Rattle.dg_base.specs.Rule.{prop_of}
use Rattle.dg_build.specs.Lines.{property_line}
use Rattle.dg_build.proofs.Kept.{push_each}
use Rattle.dg_build.proofs.objects.put_property_lines.Goals as goal

pub loop-item-preserved : goal.loop-item-preserved
loop-item-preserved c =
    push_each prop_of (property_line c.args.names.now) _ _ _ _ _ _ c.loop-item-test.true c.item-item.is c.in_ok-put_item_line.ensures c.loop-item.invariant
