use Rattle.std.proofs.Common.{◌≡◌}
use Rattle.dg_base.specs.Evaluation.{evaluated}
use Rattle.dg_walks.proofs.Growing.{Begins}
use Rattle.dg_cache.specs.Entries.{ends_of}
use Rattle.dg_eval.specs.Results.{so_far}
use Rattle.dg_eval.specs.Frames.{ends_open}
use Rattle.dg_eval.proofs.Rounds.{Going}
use Rattle.dg_eval.proofs.Measures.{todo}
use Rattle.dg_eval.proofs.Counts.{IsCounted}
use Rattle.dg_eval.proofs.evaluating.evaluate.Given as goal

abbrev pub invariant-loop-frame : goal.invariant-loop-frame
invariant-loop-frame g l = record {
  going : Going g.S.Schema.tables l.graph l.known (evaluated g.S.Schema.tables l.graph (ends_of l.known) (so_far l.fn.results l.fn.hits) l.at) l.stack.items l.results l.hits;
  way : l.way ≡ ends_open l.stack.items;
  kept : Begins l.fn.results l.results;
  steps : IsCounted g.S.Schema.tables l.graph l.fn.steps l.steps (ends_of l.fn.results) (ends_of l.results);
  made : IsCounted g.S.Schema.tables l.graph l.fn.made l.made (ends_of l.fn.results) (ends_of l.results);
}

abbrev pub decreases-loop-frame : goal.decreases-loop-frame
decreases-loop-frame g l = todo g.S.Schema.tables l.graph l.fn.at l.stack.items l.results
