use Rattle.std.proofs.Common.{◌≡◌, None, drop, map}
use Rattle.dg_script.specs.Script.{rest_of, commands_of}
use Rattle.dg_script.specs.Reader.{joined, line_of}
use Rattle.dg_script.proofs.reading.read_lines.Given as goal

abbrev pub invariant-loop-line : goal.invariant-loop-line
invariant-loop-line l =
    joined l.reader (rest_of (map (λ w. w.now) (drop l.line-index l.lines)) l.number (line_of l.reader.block))
    ≡ commands_of (rest_of (map (λ w. w.now) l.lines) 1 None)
