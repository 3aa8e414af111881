use Rattle.std.proofs.Common.{rules}
use Rattle.std.proofs.lemmas.Fn.{filter_same}
use Rattle.dg_base.specs.Changes.{stays}
use Rattle.dg_flat.proofs.changes.keep_arcs.Goals as goal

pub returns : goal.returns
returns c = filter_same _ (stays c.args.gone.now) _ (λ x b q k. search rules) _ _ c.retain.ensures.filtered
