use Rattle.std.proofs.Common.{◌≡◌, ◌++◌, drop, map}
use Rattle.dg_tool.specs.Format.{cut, cut_from}
use Rattle.dg_tool.specs.Seen.{plain}
use Rattle.dg_tool.proofs.format.cut.Given as goal

abbrev pub invariant-loop-byte : goal.invariant-loop-byte
invariant-loop-byte l = l.pieces.items ++ map plain (cut_from l.line.items (drop l.byte-index l.text)) ≡ map plain (cut l.text)
