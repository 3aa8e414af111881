use Rattle.std.proofs.Common.{◌≡◌, ap, ◌∙◌}
use Rattle.dg_desk.specs.Desks.{Desked, state_of}
use Rattle.dg_desk.specs.Places.{last_pin}
use Rattle.dg_desk.proofs.Desks.{now_among}
use Rattle.dg_desk.proofs.Places.{filed-at, last-now}
use Rattle.dg_desk.proofs.desk.Desk.now.Goals as goal

is_now : (g : _) (c : goal.After-last_in g) → c.last_in.result.now ≡ (state_of g.M.Mark.seen c.args.self.now).now
is_now g c =
    let ks = c.self.inside.body.listed.items in
    c.last_in.ensures ∙ ap (λ hs. last_pin c.self.inside.body.opened hs c.deref-2.result.now) c.deref.ensures.value
    ∙ ap (last_pin c.self.inside.body.opened c.self.inside.body.history.items) c.deref-2.ensures.value
    ∙ ap (λ (z : Desked _ _). last_pin z.opened z.history ks) c.self.view_is
    ∙ last-now g.M.Mark.seen g.M.Mark.tables c.args.self.now ks (filed-at g.M.Mark.seen g.M.Mark.tables c.self.invariant c.self.view_is).desk (filed-at g.M.Mark.seen g.M.Mark.tables c.self.invariant c.self.view_is).pins

pub returns-clause-now : goal.returns-clause-now
returns-clause-now g c = is_now g c

pub returns-clause-listed : goal.returns-clause-listed
returns-clause-listed g c = now_among g.M.Mark.seen g.M.Mark.tables c.args.self.now c.last_in.result.now (filed-at g.M.Mark.seen g.M.Mark.tables c.self.invariant c.self.view_is).desk (is_now g c)
