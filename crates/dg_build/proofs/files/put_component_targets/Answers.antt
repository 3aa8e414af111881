use Rattle.std.proofs.Common.{◌∙◌}
use Rattle.dg_build.specs.Contents.{content_of}
use Rattle.dg_build.specs.Paths.{component_path}
use Rattle.dg_build.specs.Targets.{target}
use Rattle.dg_build.proofs.Numbered.{push_numbered}
use Rattle.dg_build.proofs.files.put_component_targets.Goals as goal

pub loop-number-preserved : goal.loop-number-preserved
loop-number-preserved c =
    c.in_ok-put_component_target.ensures
    ∙ push_numbered (λ p. target (component_path c.args.stem.now p.0 p.1.kind) p.1.body) content_of c.as_slice-content-items.result.now
    c.loop-number.number _ c.args.all.now c.loop-number.all c.loop-number-test.true c.loop-number.invariant
