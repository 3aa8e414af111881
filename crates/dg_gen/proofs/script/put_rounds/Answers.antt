use Rattle.dg_gen.specs.Script.{round_of}
use Rattle.dg_gen.proofs.Numbers.{each_put}
use Rattle.dg_gen.proofs.script.put_rounds.Goals as goal

pub loop-round-preserved : goal.loop-round-preserved
loop-round-preserved c = each_put (round_of c.args.draws.now c.args.size) _ _ _ _ c.in_ok-put_round.ensures c.loop-round.invariant
