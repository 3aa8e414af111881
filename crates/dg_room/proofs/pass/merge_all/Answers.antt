use Rattle.std.proofs.Common.{[], ◌∷◌, ap, sym, ◌∙◌, arith, length-append}
use Rattle.dg_room.specs.Made.{Made, Passed, Portion, plus, sum_of}
use Rattle.dg_room.proofs.Making.{sum_of-snoc}
use Rattle.dg_room.proofs.pass.merge_all.Goals as goal

pub loop-pass-preserved : goal.loop-pass-preserved
loop-pass-preserved g c =
    let f = ap (λ (s : Portion). s.follow_parts) c.merge.ensures.new in
    let p = ap (λ (s : Portion). s.parts) c.merge.ensures.new in
    let two = c.pass.invariant.parts in
    let so_far = c.loop-pass.invariant.0 in
    let long = length-append c.loop-pass.yielded (c.in-Some.pass ∷ []) in (
      omega (arith, f, p, two, so_far, long),
      c.merge.ensures.follow_parts,
      c.merge.ensures.parts,
      ap (λ (s : Portion). s.made) c.merge.ensures.new ∙ ap (λ (m : Made). plus m c.pass.inside.shares.made) c.loop-pass.invariant.3
          ∙ ap (λ (q : Passed). plus (sum_of c.loop-pass.yielded) q.made) c.pass.view_is ∙ sym (sum_of-snoc c.loop-pass.yielded c.in-Some.pass),
    )
