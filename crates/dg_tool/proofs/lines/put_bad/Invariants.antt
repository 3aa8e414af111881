use Rattle.std.proofs.Common.{◌≡◌, ◌++◌, map, take}
use Rattle.dg_sources.specs.declared.bad.BadPlace.{BadPlace}
use Rattle.dg_tool.specs.Out.{bad_line}
use Rattle.dg_tool.specs.Seen.{plain}
use Rattle.dg_tool.proofs.lines.put_bad.Given as goal

abbrev pub invariant-loop-place : goal.invariant-loop-place
invariant-loop-place l = l.page ≡ l.initial.page ++ map (λ (p : BadPlace). plain (bad_line p)) (take l.place-index l.bad)
