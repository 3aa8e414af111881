use Rattle.std.proofs.Common.{◌≡◌, List, IfOk, subst, sym, ap, ◌∙◌}
use Rattle.dg_base.specs.declared.ids.Endpoint.{Endpoint}
use Rattle.dg_base.specs.Order.{ordered}
use Rattle.dg_laws.proofs.Orders.{ordered-ordered}
use Rattle.dg_laws.proofs.Ends.{ends_rank}
use Rattle.dg_reads.proofs.DirtyRounds.{dirty-from_rounds}
use Rattle.dg_reads.proofs.rounds.dirty.Goals as goal

pub settle-requires : goal.settle-requires
settle-requires g c = c.in_ok-dirty.ensures ∙ sym (ordered-ordered ends_rank c.args.touched.now) ∙ ap ordered (sym c.in_ok-dirty.ensures)

pub returns : goal.returns
returns g c =
    subst (λ (w : List Endpoint). IfOk c.to_vec.result (λ v. v.items ≡ w))
    (dirty-from_rounds g.S.Schema.tables (g.G.CoreReads.graph c.args.graph.now) c.deref-2.result.now c.deref.result.now c.args.touched.now c.in_ok-dirty.dirty c.settle.new.dirty
    (c.deref.ensures.value ∙ c.in_ok-ends.ensures) (c.deref-2.ensures.value ∙ c.in_ok-all.ensures) c.in_ok-dirty.ensures c.in_ok-settle.ensures)
    c.to_vec.ensures
