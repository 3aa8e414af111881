use Rattle.std.proofs.Common.{◌++◌, List, sym, ap, ◌∙◌, append-nil}
use Rattle.dg_base.specs.declared.ids.Endpoint.{Endpoint}
use Rattle.dg_base.specs.Touched.{touched_nodes}
use Rattle.dg_tx.proofs.IdRows.{ids_between-none}
use Rattle.dg_tx.proofs.UnreadNodes.{touched_nodes-none}
use Rattle.dg_tx.proofs.touched.touch_row.Goals as goal

pub returns-then-first-end : goal.returns-then-first-end
returns-then-first-end g c =
    sym (
    ap (λ (es : List Endpoint). c.args.touched.now.items ++ es) (
    ap (touched_nodes g.S.Schema.tables c.args.graph.now) (ids_between-none c.args.first c.args.end c.if-first-end.true)
    ∙ touched_nodes-none g.S.Schema.tables c.args.graph.now)
    ∙ append-nil c.args.touched.now.items)
