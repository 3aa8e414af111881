use Rattle.std.proofs.Common.{◌≡◌, ◌++◌, ◌∷◌, [], true, Some, ap, ◌∙◌, refl, length, vec_len, arith, rules}
use Rattle.dg_cache.specs.Caches.{Cached}
use Rattle.dg_desk.specs.declared.event.What.TheVariants as what
use Rattle.dg_desk.specs.Desks.{Desked, event_of}
use Rattle.dg_desk.proofs.Desks.{settle_step}
use Rattle.dg_desk.proofs.Places.{filed-at, filed-step}
use Rattle.dg_desk.proofs.desk.Desk.settle.Goals as goal

pub invariant_of-self : goal.invariant_of-self
invariant_of-self g c =
    let same = c.self.view_is in
    let body = c.self.inside.body in
    let l : vec_len body.history ≡ length body.history.items = search rules in
    let place = c.push_place.ensures.items ∙ ap (λ n. Some n ∷ []) (c.len-place.ensures ∙ l ∙ ap (λ (z : Desked _ _). length z.history) same) in
    let old = filed-at g.M.Mark.seen g.M.Mark.tables c.self.invariant same in
    let w = what.Settle c.args.ticket in
    let history = c.push_record.ensures.items ∙ ap (λ (z : Desked _ _). z.history ++ event_of z w ∷ []) same in
    let made =
    settle_step g.M.Mark.seen g.M.Mark.tables c.args.self.now c.args.ticket _ _ _ _ _ old.desk
    (ap (λ (z : Desked _ _). z.opened) same) (ap (λ (z : Cached). z.capacity) c.clear.ensures ∙ ap (λ (z : Desked _ _). z.capacity) same) (ap (λ (z : Cached). z.entries) c.clear.ensures)
    history (ap (λ (z : Desked _ _). z.pass) same)
    in
    let some = c.requires.spare in let left = old.left_is in
    filed-step g.M.Mark.seen g.M.Mark.tables w true old refl refl made (omega (arith, some, left)) c.push_record.ensures.len c.push_record.ensures.capacity c.push_record.ensures.counts
    place c.push_place.ensures.capacity
