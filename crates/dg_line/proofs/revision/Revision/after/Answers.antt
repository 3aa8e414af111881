use Rattle.std.proofs.Common.{ℕ, ◌+◌, ◌<◌, List, All, sym, ap, subst}
use Rattle.dg_base.specs.declared.limits.TheConstants.{REVISIONS}
use Rattle.dg_line.specs.declared.counters.Counted.{Counted}
use Rattle.dg_line.specs.Counts.{IsAtMost}
use Rattle.dg_line.specs.Revisions.{Seen}
use Rattle.dg_line.proofs.revision.Revision.after.Goals as goal

pub invariant_of-result : goal.invariant_of-result
invariant_of-result g c = record {
  below = subst (λ (n : ℕ). n + 1 < REVISIONS) (sym (ap (λ (r : Seen). r.number) c.self.view_is)) c.requires.room;
  counted =
      c.in_ok-raise.ensures.low c.self.inside.number
      (subst (λ (cs : List Counted). All (IsAtMost c.self.inside.number) cs) (sym c.in_ok-counters.ensures) c.self.invariant.counted);
}
