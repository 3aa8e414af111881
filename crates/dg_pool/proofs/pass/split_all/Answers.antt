use Rattle.std.proofs.Common.{◌≡◌, ap, arith}
use Rattle.std.proofs.lemmas.List.Elements.{All-push, All-same}
use Rattle.dg_pool.specs.Tallies.{Portion, no_acts}
use Rattle.dg_pool.proofs.pass.split_all.Goals as goal

pub loop-preserved : goal.loop-preserved
loop-preserved g c =
    let one_more = All-push (λ p. p ≡ no_acts) c.loop.all.items c.split_one.result.tally c.loop.invariant.fresh (ap (λ (p : Portion). p.tally) c.split_one.ensures.one) in
    record {
      parts = omega arith;
      tally = c.split_one.ensures.tally;
      count = omega (arith, c.in_ok-push.ensures.len);
      fresh = All-same (λ p. p ≡ no_acts) c.push.new.self.items _ c.in_ok-push.ensures.items one_more;
    }
