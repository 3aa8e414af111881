use Rattle.std.proofs.Common.{◌≡◌, map, take}
use Rattle.dg_tool.specs.Seen.{plain}
use Rattle.dg_tool.proofs.output.plain_pieces.Given as goal

abbrev pub invariant-loop-line : goal.invariant-loop-line
invariant-loop-line l = l.pieces.items ≡ map plain (take l.line-index l.lines)
