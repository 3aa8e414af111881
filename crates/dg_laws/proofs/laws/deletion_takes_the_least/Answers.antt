use Rattle.dg_laws.proofs.Nodes.{IsLinked-from_sound}
use Rattle.dg_laws.proofs.GraphWalks.{taken_kept, doomed-itself, doomed-overs, doomed-owned, doomed-least, doomed-rise}
use Rattle.dg_laws.proofs.laws.deletion_takes_the_least.Goals as goal

pub returns : goal.returns
returns g c graph sound n =
    let l = IsLinked-from_sound sound in
    let t = g.S.Schema.tables in
    record {
      itself = doomed-itself l t n;
      overs_too = doomed-overs l t n;
      owned_too = doomed-owned l t n;
      least = λ p first overs_kept owned_kept m a. doomed-least t graph p (taken_kept graph t p overs_kept owned_kept) n m first a;
      in_order = doomed-rise t graph n;
    }
