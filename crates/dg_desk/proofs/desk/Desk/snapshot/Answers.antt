use Rattle.std.proofs.Common.{◌≡◌, sym, ap, ◌∙◌, subst, Result, Ok, Err, IfOk}
use Rattle.dg_cache.specs.Entries.{in_order}
use Rattle.dg_offer.specs.Offers.{AreValues}
use Rattle.dg_desk.specs.Desks.{Desked, IsDesk, state_of}
use Rattle.dg_desk.proofs.Desks.{snapshot-values}
use Rattle.dg_desk.proofs.desk.Desk.snapshot.Goals as goal

if_ok : {X E : Type 0} (P Q : X → Type 0) (r : Result X E) → ((x : X) → P x → Q x) → IfOk r P → IfOk r Q
if_ok P Q (Ok x) f h = f x h
if_ok P Q (Err e) f h = h

pub returns-then-meets-clause-values : goal.returns-then-meets-clause-values
returns-then-meets-clause-values g c =
    let same = c.self.view_is in
    let values =
    snapshot-values g.M.Mark.seen g.M.Mark.tables c.args.self.now c.args.ticket.now.revision
    (subst (λ (z : Desked _ _). IsDesk g.M.Mark.seen g.M.Mark.tables z) same c.self.invariant.desk) (c.meets.ensures.revision c.if-meets.true)
    in
    if_ok (λ s. s ≡ in_order c.self.inside.body.cache.entries) (λ s. AreValues g.M.Mark.tables (g.M.Mark.seen c.args.ticket.now.revision).graph s) c.snapshot.result
    (λ s e. subst (λ z. AreValues g.M.Mark.tables (g.M.Mark.seen c.args.ticket.now.revision).graph z) (sym (e ∙ ap (λ (z : Desked _ _). in_order z.entries) same)) values)
    c.snapshot.ensures

pub returns-then-meets-clause-same : goal.returns-then-meets-clause-same
returns-then-meets-clause-same g c =
    if_ok (λ s. s ≡ in_order c.self.inside.body.cache.entries)
    (λ s. (state_of g.M.Mark.seen c.args.self.now).now.index ≡ c.args.ticket.now.index → (state_of g.M.Mark.seen c.args.self.now).now.revision ≡ c.args.ticket.now.revision) c.snapshot.result
    (λ s e at. c.meets.ensures.revision c.if-meets.true) c.snapshot.ensures
