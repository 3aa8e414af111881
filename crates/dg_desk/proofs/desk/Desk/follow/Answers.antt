use Rattle.std.proofs.Common.{◌≡◌, ◌++◌, ◌∷◌, [], Some, sym, ap, ◌∙◌, subst, refl, cond, length, vec_len, arith, rules}
use Rattle.dg_cache.specs.Caches.{Cached}
use Rattle.dg_line.specs.Tickets.{Pin}
use Rattle.dg_desk.specs.declared.event.What.TheVariants as what
use Rattle.dg_desk.specs.Acts.{entries_followed, IsFollowedBy}
use Rattle.dg_desk.specs.Desks.{Desked, event_of, state_of}
use Rattle.dg_desk.specs.Places.{is_restart}
use Rattle.dg_desk.proofs.Desks.{IsStep, follow_step}
use Rattle.dg_desk.proofs.Places.{filed-at, filed-step, list-follow}
use Rattle.dg_desk.proofs.desk.Desk.follow.Goals as goal

history_is : (g : _) (c : goal.After-self-1 g) →
    c.push_record.new.history.items ≡ c.args.self.now.history ++ event_of c.args.self.now (what.Follow c.args.link c.follow_cache-answer.result) ∷ []
history_is g c = c.push_record.ensures.items ∙ ap (λ (z : Desked _ _). z.history ++ event_of z (what.Follow c.args.link c.follow_cache-answer.result) ∷ []) c.self.view_is

made : (g : _) (c : goal.After-self-1 g) →
    IsStep g.M.Mark.seen g.M.Mark.tables c.args.self.now (what.Follow c.args.link c.follow_cache-answer.result)
    (record {
      opened = c.self.inside.body.opened;
      capacity = c.follow_cache-answer.new.cache.capacity;
      entries = c.follow_cache-answer.new.cache.entries;
      history = c.push_record.new.history.items;
      pass = c.self.inside.body.pass;
    })
made g c =
    let same = c.self.view_is in
    let from = c.from.ensures in
    follow_step g.M.Mark.seen g.M.Mark.tables c.args.self.now c.args.link c.meets-meets.result c.follow_cache-answer.result c.index-had.result _ _ _ _ _
    (filed-at g.M.Mark.seen g.M.Mark.tables c.self.invariant c.self.view_is).desk
    c.is_link.ensures
    (λ h. c.meets-meets.ensures.yes h ∙ ap (λ (p : Pin _ _). p.index) from)
    (λ h. c.meets-meets.ensures.revision h ∙ ap (λ (p : Pin _ _). p.revision) from)
    (λ h e. c.meets-meets.ensures.no h (e ∙ sym (ap (λ (p : Pin _ _). p.index) from)))
    (c.index-had.ensures ∙ ap (λ (p : Pin _ _). p.index) c.now.ensures.now)
    (subst (λ n. IsFollowedBy c.meets-meets.result c.index-had.result n c.follow_cache-answer.result) (c.index.ensures ∙ ap (λ (p : Pin _ _). p.index) c.from-2.ensures) c.follow_cache-answer.ensures.answer)
    (ap (λ (z : Desked _ _). z.opened) same)
    (ap (λ (z : Cached). z.capacity) c.follow_cache-answer.ensures.cache ∙ ap (λ (z : Desked _ _). z.capacity) same)
    (ap (λ (z : Cached). z.entries) c.follow_cache-answer.ensures.cache
    ∙ ap (λ ds. entries_followed ds c.self.inside.body.cache.entries c.follow_cache-answer.result) c.dirty.ensures
    ∙ ap (λ (z : Desked _ _). entries_followed c.args.link.dirty z.entries c.follow_cache-answer.result) same)
    (history_is g c)
    (ap (λ (z : Desked _ _). z.pass) same)

place_is : (g : _) (c : goal.After-self-1 g) →
    c.push_place.new.places.items ≡ cond (is_restart c.follow_cache-answer.result) [] c.self.inside.body.listed.items ++ Some (length c.args.self.now.history) ∷ []
place_is g c =
    let l : vec_len c.self.inside.body.history ≡ length c.self.inside.body.history.items = search rules in
    c.push_place.ensures.items
    ∙ ap (λ b. cond b [] c.self.inside.body.listed.items ++ Some c.len-place.result ∷ []) c.is_restart.ensures
    ∙ ap (λ n. cond (is_restart c.follow_cache-answer.result) [] c.self.inside.body.listed.items ++ Some n ∷ [])
    (c.len-place.ensures ∙ l ∙ ap (λ (z : Desked _ _). length z.history) c.self.view_is)

pub invariant_of-self : goal.invariant_of-self
invariant_of-self g c =
    let d = c.args.self.now in
    let a = c.follow_cache-answer.result in
    let some = c.requires.spare in let left = (filed-at g.M.Mark.seen g.M.Mark.tables c.self.invariant c.self.view_is).left_is in
    filed-step g.M.Mark.seen g.M.Mark.tables (what.Follow c.args.link a) (is_restart a) (filed-at g.M.Mark.seen g.M.Mark.tables c.self.invariant c.self.view_is) refl
    (list-follow g.M.Mark.seen d.capacity (state_of g.M.Mark.seen d) c.args.link a) (made g c) (omega (arith, some, left))
    c.push_record.ensures.len c.push_record.ensures.capacity c.push_record.ensures.counts (place_is g c) c.push_place.ensures.capacity

pub returns-clause-new : goal.returns-clause-new
returns-clause-new g c = (made g c).is

pub returns-clause-answer : goal.returns-clause-answer
returns-clause-answer g c = (made g c).answer
