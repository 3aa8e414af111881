use Rattle.std.proofs.Common.{rules, not}
use Rattle.std.proofs.lemmas.Fn.{filter_same}
use Rattle.dg_base.specs.Order.{is_node_among}
use Rattle.dg_flat.proofs.changes.keep_nodes.Goals as goal

pub returns : goal.returns
returns c = filter_same _ (λ x. not (is_node_among c.args.gone.now x.id)) _ (λ x b q k. search rules) _ _ c.retain.ensures.filtered
