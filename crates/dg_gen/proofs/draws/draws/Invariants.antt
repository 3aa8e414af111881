use Rattle.std.proofs.Common.{◌≡◌}
use Rattle.dg_gen.specs.Draws.{state_after, draws}
use Rattle.dg_gen.proofs.draws.draws.Given as goal

abbrev pub invariant-loop : goal.invariant-loop
invariant-loop l = record {
  drawn : l.all.items ≡ draws l.seed l.counter;
  state : l.state ≡ state_after l.seed l.counter;
}
