use Rattle.std.proofs.Common.{◌≡◌, Some, slice_get}
use Rattle.std.specs.List.{Contains}
use Rattle.dg_line.specs.Revisions.{Seen}
use Rattle.dg_line.specs.Tickets.{Pin}
use Rattle.dg_line.specs.declared.own_line.Unmarked.{Unmarked}
use Rattle.dg_desk.specs.Desks.{state_of}
use Rattle.dg_desk.proofs.tests.first_other.Given as goal

abbrev pub invariant-loop-place : goal.invariant-loop-place
invariant-loop-place l =
    (slice_get l.line l.first.index ≡ Some l.first.revision)
    × ((p : Pin Seen (Unmarked Seen)) → Contains (state_of (λ (r : Seen). r) l.desk).list p → slice_get l.line p.index ≡ Some p.revision)
