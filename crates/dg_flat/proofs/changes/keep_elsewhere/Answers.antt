use Rattle.std.proofs.Common.{rules, not, ◌&&◌}
use Rattle.std.proofs.lemmas.Fn.{filter_same}
use Rattle.dg_base.specs.Same.{same_node, same_label}
use Rattle.dg_flat.proofs.changes.keep_elsewhere.Goals as goal

pub returns : goal.returns
returns c = filter_same _ (λ a. not (same_node a.node c.args.node && same_label a.input c.args.input)) _ (λ x b q k. search rules) _ _ c.retain.ensures.filtered
