use Rattle.std.proofs.Common.{◌∙◌}
use Rattle.dg_build.specs.Paths.{object_path}
use Rattle.dg_build.specs.Targets.{target}
use Rattle.dg_build.proofs.Numbered.{push_numbered}
use Rattle.dg_build.proofs.files.put_object_targets.Goals as goal

pub loop-number-preserved : goal.loop-number-preserved
loop-number-preserved c =
    c.in_ok-put_object_target.ensures
    ∙ push_numbered (λ p. target (object_path c.args.stem.now p.0) p.1) (λ t. t.now) c.as_slice-text-items.result.now
    c.loop-number.number _ c.args.all.now c.loop-number.all c.loop-number-test.true c.loop-number.invariant
