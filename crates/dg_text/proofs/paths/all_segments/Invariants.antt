use Rattle.std.proofs.Common.{◌≡◌, drop, map}
use Rattle.std.specs.List.{list_all}
use Rattle.dg_text.specs.Paths.{is_segment}
use Rattle.dg_text.proofs.paths.all_segments.Given as goal

abbrev pub invariant-loop-segment : goal.invariant-loop-segment
invariant-loop-segment l =
    list_all is_segment (map (λ s. s.now) (drop l.segment-index l.segments)) ≡ list_all is_segment (map (λ s. s.now) l.segments)
