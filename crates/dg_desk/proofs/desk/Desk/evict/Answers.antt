use Rattle.std.proofs.Common.{◌≡◌, ◌++◌, ◌∷◌, [], sym, ap, ◌∙◌, subst, refl, length, arith}
use Rattle.dg_cache.specs.Caches.{Cached, evicted, holding}
use Rattle.dg_desk.specs.declared.event.What.TheVariants as what
use Rattle.dg_desk.specs.Desks.{Desked, IsEvicted, event_of, nth_of}
use Rattle.dg_desk.proofs.Desks.{IsStep, eviction_recorded, eviction_refused, evict_step, evicted-answer, refused-same}
use Rattle.dg_desk.proofs.Places.{filed-at, filed-other, filed-same}
use Rattle.dg_desk.proofs.desk.Desk.evict.Goals as goal

history_is : (g : _) (c : goal.After-push_record g) →
    c.push_record.new.history.items ≡ c.args.self.now.history ++ event_of c.args.self.now (what.Evict c.args.most c.evict-answer.result) ∷ []
history_is g c =
    let w = what.Evict c.args.most c.evict-answer.result in
    c.push_record.ensures.items
    ∙ ap (λ hs. hs ++ record { pass = c.self.inside.body.pass; nth = nth_of c.self.inside.body.pass hs; what = w } ∷ []) c.reserve.ensures.items
    ∙ ap (λ (z : Desked _ _). z.history ++ event_of z w ∷ []) c.self.view_is

-- where it was refused, nothing changed
same_is : (g : _) (c : goal.Then-is_refused g) →
    ◌≡◌ {A = Desked _ _} (record {
      opened = c.self.inside.body.opened;
      capacity = c.evict-answer.new.self.capacity;
      entries = c.evict-answer.new.self.entries;
      history = c.reserve.new.self.items;
      pass = c.self.inside.body.pass;
    }) c.args.self.now
same_is g c =
    let a = c.evict-answer.result in
    let body = c.self.inside.body in
    let cache : c.evict-answer.new.self ≡ body.cache = c.evict-answer.ensures.new ∙ ap (holding body.cache) (refused-same a.gone a.end body.cache.entries c.if-is_refused.ensures) in
    rw (cache, c.reserve.ensures.items) c.self.view_is

pub invariant_of-self-then-is_refused : goal.invariant_of-self-then-is_refused
invariant_of-self-then-is_refused g c =
    let ok = c.in-Ok.ensures.ok in
    filed-same g.M.Mark.seen g.M.Mark.tables c.self.invariant (same_is g c ∙ sym c.self.view_is) (omega (arith, ok))

pub returns-then-is_refused : goal.returns-then-is_refused
returns-then-is_refused g c = eviction_refused g.M.Mark.seen g.M.Mark.tables c.args.self.now _ c.args.most c.evict-answer.result c.if-is_refused.ensures (same_is g c)

made : (g : _) (c : goal.After-push_record g) →
    IsStep g.M.Mark.seen g.M.Mark.tables c.args.self.now (what.Evict c.args.most c.evict-answer.result)
    (record {
      opened = c.self.inside.body.opened;
      capacity = c.evict-answer.new.self.capacity;
      entries = c.evict-answer.new.self.entries;
      history = c.push_record.new.history.items;
      pass = c.self.inside.body.pass;
    })
made g c =
    let same = c.self.view_is in
    let a = c.evict-answer.result in
    let e = c.evict-answer.ensures in
    evict_step g.M.Mark.seen g.M.Mark.tables c.args.self.now c.args.most a _ _ _ _ _
    (filed-at g.M.Mark.seen g.M.Mark.tables c.self.invariant same).desk
    (subst (λ (z : Desked _ _). IsEvicted c.args.most (length z.entries) a.gone a.end) same
    (evicted-answer c.args.most (length c.self.inside.body.cache.entries) a.gone a.end e.all e.part (sym c.if-is_refused.ensures)))
    (ap (λ (z : Desked _ _). z.opened) same)
    (ap (λ (z : Cached). z.capacity) e.new ∙ ap (λ (z : Desked _ _). z.capacity) same)
    (ap (λ (z : Cached). z.entries) e.new ∙ ap (λ (z : Desked _ _). evicted a.gone z.entries) same)
    (history_is g c) (ap (λ (z : Desked _ _). z.pass) same)

pub invariant_of-self-2 : goal.invariant_of-self-2
invariant_of-self-2 g c =
    let ok = c.in-Ok.ensures.ok in
    let len = c.push_record.ensures.len in let cap = c.push_record.ensures.capacity in
    filed-other g.M.Mark.seen g.M.Mark.tables (what.Evict c.args.most c.evict-answer.result) (filed-at g.M.Mark.seen g.M.Mark.tables c.self.invariant c.self.view_is) refl (made g c)
    (omega (arith, ok, len, cap)) c.push_record.ensures.counts

pub returns : goal.returns
returns g c = eviction_recorded g.M.Mark.seen g.M.Mark.tables c.args.self.now _ c.args.most c.evict-answer.result c.if-is_refused.ensures (made g c)
