use Rattle.std.proofs.Common.{rules, not}
use Rattle.std.proofs.lemmas.Fn.{filter_same}
use Rattle.dg_base.specs.Same.{same_arc}
use Rattle.dg_flat.proofs.changes.keep_others.Goals as goal

pub returns : goal.returns
returns c = filter_same _ (λ b. not (same_arc c.args.arc b)) _ (λ x b q k. search rules) _ _ c.retain.ensures.filtered
