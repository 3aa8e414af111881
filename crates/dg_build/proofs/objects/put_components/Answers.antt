use Rattle.std.proofs.Common.{map}
use Rattle.dg_build.specs.Contents.{content_of}
use Rattle.dg_build.specs.Objects.{component_lines}
use Rattle.dg_build.proofs.Kept.{push_flat}
use Rattle.dg_build.proofs.objects.put_components.Goals as goal

pub loop-component-preserved : goal.loop-component-preserved
loop-component-preserved c =
    push_flat (component_lines c.args.stem.now (map content_of c.args.contents.now.keys) c.args.names.now) _ _ _ _ _ _
    c.loop-component-test.true c.component-item.is c.in_ok-put_component.ensures c.loop-component.invariant
