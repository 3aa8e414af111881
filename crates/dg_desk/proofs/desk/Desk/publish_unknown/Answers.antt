use Rattle.std.proofs.Common.{◌≡◌, ◌++◌, ◌∷◌, [], sym, ap, ◌∙◌, subst, refl, length, vec_len, arith, rules}
use Rattle.dg_line.specs.Tickets.{Pin}
use Rattle.dg_desk.specs.declared.event.Published.{Published}
use Rattle.dg_desk.specs.declared.event.PublishEnd.TheVariants as end_of
use Rattle.dg_desk.specs.declared.event.What.TheVariants as what
use Rattle.dg_desk.specs.Desks.{Desked, IsPublication, event_of, nth_of}
use Rattle.dg_desk.proofs.Desks.{IsStep, unknown_step}
use Rattle.dg_desk.proofs.Places.{filed-at, filed-other}
use Rattle.dg_desk.proofs.desk.Desk.publish_unknown.Goals as goal

history_is : (g : _) (c : goal.After-push_record g) →
    c.push_record.new.history.items ≡ c.args.self.now.history ++ event_of c.args.self.now (what.Publish c.args.offer c.unknown_answer-answer.result) ∷ []
history_is g c =
    let w = what.Publish c.args.offer c.unknown_answer-answer.result in
    c.push_record.ensures.items
    ∙ ap (λ hs. hs ++ record { pass = c.self.inside.body.pass; nth = nth_of c.self.inside.body.pass hs; what = w } ∷ []) c.reserve.ensures.items
    ∙ ap (λ (z : Desked _ _). z.history ++ event_of z w ∷ []) c.self.view_is

made : (g : _) (c : goal.After-push_record g) →
    IsStep g.M.Mark.seen g.M.Mark.tables c.args.self.now (what.Publish c.args.offer c.unknown_answer-answer.result)
    (record {
      opened = c.self.inside.body.opened;
      capacity = c.self.inside.body.cache.capacity;
      entries = c.self.inside.body.cache.entries;
      history = c.push_record.new.history.items;
      pass = c.self.inside.body.pass;
    })
made g c =
    let same = c.self.view_is in
    unknown_step g.M.Mark.seen g.M.Mark.tables c.args.self.now c.args.offer c.unknown_answer-answer.result _ _ _ _ _
    (filed-at g.M.Mark.seen g.M.Mark.tables c.self.invariant c.self.view_is).desk
    c.is_offer.ensures c.requires
    (ap (λ (z : Published). z.kept) c.unknown_answer-answer.ensures, ap (λ (z : Published). z.late) c.unknown_answer-answer.ensures, ap (λ (z : Published). z.done) c.unknown_answer-answer.ensures)
    (ap (λ (z : Published). z.end) c.unknown_answer-answer.ensures ∙ ap end_of.Unknown (c.index.ensures ∙ ap (λ (p : Pin _ _). p.index) c.ticket.ensures))
    (ap (λ (z : Desked _ _). z.opened) same) (ap (λ (z : Desked _ _). z.capacity) same) (ap (λ (z : Desked _ _). z.entries) same)
    (history_is g c) (ap (λ (z : Desked _ _). z.pass) same)

pub invariant_of-self-2 : goal.invariant_of-self-2
invariant_of-self-2 g c =
    let ok = c.in-Ok.ensures.ok in
    let len = c.push_record.ensures.len in let cap = c.push_record.ensures.capacity in
    filed-other g.M.Mark.seen g.M.Mark.tables (what.Publish c.args.offer c.unknown_answer-answer.result) (filed-at g.M.Mark.seen g.M.Mark.tables c.self.invariant c.self.view_is) refl (made g c) (omega (arith, ok, len, cap)) c.push_record.ensures.counts

pub returns : goal.returns
returns g c =
    let m = made g c in
    let l : vec_len c.reserve.new.self ≡ length c.reserve.new.self.items = search rules in
    let at = c.len.ensures ∙ l ∙ ap length (c.reserve.ensures.items ∙ ap (λ (z : Desked _ _). z.history) c.self.view_is) in
    subst (IsPublication g.M.Mark.seen c.args.self.now c.args.offer c.unknown_answer-answer.result _) (sym (ap (λ (z : Published). z.place) c.unknown_answer-answer.ensures)) (at, m.is, m.answer)
