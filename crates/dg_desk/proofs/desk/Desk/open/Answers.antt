use Rattle.std.proofs.Common.{◌∷◌, ◌++◌, None, [], ap, ◌∙◌, arith}
use Rattle.dg_cache.specs.Caches.{Cached}
use Rattle.dg_desk.proofs.Places.{filed-opened, get_replicate}
use Rattle.dg_desk.proofs.desk.Desk.open.Goals as goal

pub invariant_of-result : goal.invariant_of-result
invariant_of-result g c =
    let e = c.in_ok-history.ensures in
    let l = e.len in let k = e.capacity in
    let p = c.push_reserved.ensures in
    let j = c.in_ok-listed.ensures.capacity in let m = p.capacity in
    filed-opened g.M.Mark.seen g.M.Mark.tables (ap (λ (z : Cached). z.entries) c.new.ensures) e.items (p.items ∙ ap (λ ks. ks ++ None ∷ []) c.in_ok-listed.ensures.items)
    (omega (arith, l, k)) (omega (arith, j, m)) (λ pass few. get_replicate 17 pass 0 few)
