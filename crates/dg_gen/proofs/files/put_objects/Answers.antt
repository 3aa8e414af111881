use Rattle.dg_gen.specs.Files.{object_files}
use Rattle.dg_gen.proofs.Numbers.{each_put}
use Rattle.dg_gen.proofs.files.put_objects.Goals as goal

pub loop-number-preserved : goal.loop-number-preserved
loop-number-preserved c = each_put (object_files c.args.draws.now) _ _ _ _ c.in_ok-put_object.ensures c.loop-number.invariant
