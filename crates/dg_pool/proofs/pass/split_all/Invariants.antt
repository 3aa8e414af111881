use Rattle.std.specs.Prelude.{◌≡◌, ◌+◌, All, length}
use Rattle.dg_pool.specs.Tallies.{no_acts}
use Rattle.dg_pool.proofs.pass.split_all.Given as goal

abbrev pub invariant-loop : goal.invariant-loop
invariant-loop g l = record {
  parts : l.whole.parts + l.counter ≡ l.passes;
  tally : l.whole.tally ≡ no_acts;
  count : length l.all.items ≡ l.counter;
  fresh : All (λ p. p ≡ no_acts) l.all.items;
}
