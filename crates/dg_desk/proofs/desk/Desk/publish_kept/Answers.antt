use Rattle.std.proofs.Common.{◌≡◌, ◌++◌, ◌∷◌, [], sym, ap, ◌∙◌, subst, refl, take, length, vec_len, arith, rules}
use Rattle.dg_cache.specs.Caches.{Cached}
use Rattle.dg_cache.specs.Entries.{put_all, touched}
use Rattle.dg_desk.specs.declared.event.What.TheVariants as what
use Rattle.dg_desk.specs.Machine.{is_unchanged}
use Rattle.dg_desk.specs.Acts.{IsPut}
use Rattle.dg_desk.specs.Desks.{Desked, IsPublication, event_of, nth_of, state_of}
use Rattle.dg_laws.proofs.Filters.{length_filter_le}
use Rattle.dg_desk.proofs.Desks.{IsStep, publish_step}
use Rattle.dg_desk.proofs.Places.{filed-at, filed-other}
use Rattle.dg_desk.proofs.desk.Desk.publish_kept.Goals as goal

history_is : (g : _) (c : goal.After-push_record g) →
    c.push_record.new.history.items ≡ c.args.self.now.history ++ event_of c.args.self.now (what.Publish c.args.offer c.put_answer-answer.result) ∷ []
history_is g c =
    let w = what.Publish c.args.offer c.put_answer-answer.result in
    c.push_record.ensures.items
    ∙ ap (λ hs. hs ++ record { pass = c.self.inside.body.pass; nth = nth_of c.self.inside.body.pass hs; what = w } ∷ []) c.reserve.ensures.items
    ∙ ap (λ (z : Desked _ _). z.history ++ event_of z w ∷ []) c.self.view_is

made : (g : _) (c : goal.After-push_record g) →
    IsStep g.M.Mark.seen g.M.Mark.tables c.args.self.now (what.Publish c.args.offer c.put_answer-answer.result)
    (record {
      opened = c.self.inside.body.opened;
      capacity = c.put_all-done.new.cache.capacity;
      entries = c.put_all-done.new.cache.entries;
      history = c.push_record.new.history.items;
      pass = c.self.inside.body.pass;
    })
made g c =
    let same = c.self.view_is in
    publish_step g.M.Mark.seen g.M.Mark.tables c.args.self.now c.args.offer c.put_answer-answer.result c.args.kept.now _ _ _ _ _
    (filed-at g.M.Mark.seen g.M.Mark.tables c.self.invariant c.self.view_is).desk
    c.is_offer.ensures c.requires.0 c.requires.1
    (subst (λ z. IsPut (length z) (length c.args.kept.now) c.put_answer-answer.result c.put_answer-answer.result.end) c.entries.ensures c.put_answer-answer.ensures.put)
    (ap (λ (z : Desked _ _). z.opened) same)
    (ap (λ (z : Cached). z.capacity) c.put_all-done.ensures.cache ∙ ap (λ (z : Cached). z.capacity) c.touch_all.ensures ∙ ap (λ (z : Desked _ _). z.capacity) same)
    (ap (λ (z : Cached). z.entries) c.put_all-done.ensures.cache
    ∙ ap (λ (z : Cached). put_all z.capacity (take c.put_all-done.result c.args.kept.now) z.entries) c.touch_all.ensures
    ∙ ap (λ hs. put_all c.self.inside.body.cache.capacity (take c.put_all-done.result c.args.kept.now) (touched hs c.self.inside.body.cache.entries)) c.hits.ensures
    ∙ ap (λ (z : Desked _ _). put_all z.capacity (take c.put_all-done.result c.args.kept.now) (touched c.args.offer.hits z.entries)) same
    ∙ ap (λ n. put_all c.args.self.now.capacity (take n c.args.kept.now) (touched c.args.offer.hits c.args.self.now.entries)) (sym c.put_answer-answer.ensures.done))
    (history_is g c) (ap (λ (z : Desked _ _). z.pass) same)

pub invariant_of-self-2 : goal.invariant_of-self-2
invariant_of-self-2 g c =
    let ok = c.in-Ok.ensures.ok in
    let len = c.push_record.ensures.len in let cap = c.push_record.ensures.capacity in
    filed-other g.M.Mark.seen g.M.Mark.tables (what.Publish c.args.offer c.put_answer-answer.result) (filed-at g.M.Mark.seen g.M.Mark.tables c.self.invariant c.self.view_is) refl (made g c) (omega (arith, ok, len, cap)) c.push_record.ensures.counts

pub returns : goal.returns
returns g c =
    let m = made g c in
    let l : vec_len c.reserve.new.self ≡ length c.reserve.new.self.items = search rules in
    let at = c.len.ensures ∙ l ∙ ap length (c.reserve.ensures.items ∙ ap (λ (z : Desked _ _). z.history) c.self.view_is) in
    subst (IsPublication g.M.Mark.seen c.args.self.now c.args.offer c.put_answer-answer.result _) (sym (c.put_answer-answer.ensures.place)) (at, m.is, m.answer)

pub put_answer-answer-requires-clause-kept : goal.put_answer-answer-requires-clause-kept
put_answer-answer-requires-clause-kept g c =
    let k = ap length c.requires.1 in
    let f = length_filter_le (is_unchanged (g.M.Mark.seen c.args.offer.ticket.revision) (g.M.Mark.seen (state_of g.M.Mark.seen c.args.self.now).now.revision)) c.args.offer.entries in
    let e = ap length c.entries.ensures in
    omega (arith, k, f, e)
