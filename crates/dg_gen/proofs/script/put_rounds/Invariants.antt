use Rattle.std.proofs.Common.{◌≡◌, ◌++◌, flat_map}
use Rattle.std.specs.List.{range_with_len}
use Rattle.dg_gen.specs.Script.{round_of}
use Rattle.dg_gen.proofs.script.put_rounds.Given as goal

abbrev pub invariant-loop-round : goal.invariant-loop-round
invariant-loop-round l =
    l.out.items ≡ l.initial.out.items ++ flat_map (round_of l.draws l.size) (range_with_len 0 l.round)
