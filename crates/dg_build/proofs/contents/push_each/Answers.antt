use Rattle.dg_build.specs.Contents.{content_in}
use Rattle.dg_build.proofs.Kept.{push_kept}
use Rattle.dg_build.proofs.contents.push_each.Goals as goal

pub loop-component-preserved : goal.loop-component-preserved
loop-component-preserved c =
    push_kept content_in _ _ _ _ _ _ c.loop-component-test.true c.component-item.is c.in_ok-push_content.ensures c.loop-component.invariant
