use Rattle.dg_gen.specs.Files.{outer_file}
use Rattle.dg_gen.proofs.Numbers.{one_put}
use Rattle.dg_gen.proofs.files.put_others.Goals as goal

pub loop-number-preserved : goal.loop-number-preserved
loop-number-preserved c = one_put (outer_file c.args.draws.now c.args.size) _ _ _ _ c.in_ok-put_other.ensures c.loop-number.invariant
