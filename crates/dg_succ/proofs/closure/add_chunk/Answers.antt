use Rattle.std.proofs.Common.{sym, ◌∙◌}
use Rattle.std.proofs.lemmas.Bool.{not-false}
use Rattle.dg_pmap.proofs.Runs.{all_more}
use Rattle.dg_succ.specs.Pairs.{Pair}
use Rattle.dg_succ.specs.Walked.{begins_at}
use Rattle.dg_succ.proofs.Walking.{first_end, chunk-next}
use Rattle.dg_succ.proofs.closure.add_chunk.Goals as goal

abbrev nothing : Pair × Unit {0}
nothing = ((first_end, first_end), tt)

pub loop-pair-preserved : goal.loop-pair-preserved
loop-pair-preserved c =
    let here = not-false _ (sym c.ne.ensures ∙ c.if-ne.false) in
    record {
      so_far =
          chunk-next c.loop-pair.found.keys c.insert.new.self.keys c.args.here c.args.run.now c.loop-pair.pair-index nothing c.loop-pair-test.true here c.in_ok-insert.ensures.keys
          ∙ c.loop-pair.invariant.so_far;
      all = sym (all_more (begins_at c.args.here) c.args.run.now c.loop-pair.pair-index nothing c.loop-pair-test.true here) ∙ c.loop-pair.invariant.all;
    }
