use Rattle.std.proofs.Common.{◌≡◌, length, ap, ◌∙◌, arith}
use Rattle.dg_room.specs.Made.{none_made, passed}
use Rattle.dg_crew.proofs.Fresh.{fresh-pop}
use Rattle.dg_crew.proofs.seats.seated.Goals as goal

pub loop-passes-preserved : goal.loop-passes-preserved
loop-passes-preserved g c = (fresh-pop c.loop-passes.passes.items c.pop.new.self.items c.in-Some.room c.in-Some.ensures.items c.loop-passes.invariant).0

pub invariant_of-result : goal.invariant_of-result
invariant_of-result g c =
    let pop = fresh-pop c.loop-passes.passes.items c.pop-2.new.self.items c.in-Some-pop-2.pass c.in-Some-pop-2.ensures.items c.loop-passes.invariant in
    let one = c.in-Some-pop-2.ensures.cases in let few = c.loop-passes-test.false in let len = c.len.ensures in
    let none : length c.pop-2.new.self.items ≡ 0 = omega (arith, one, few, len) in
    record { first = pop.1 ∙ ap (λ n. passed n none_made) none }
