use Rattle.std.proofs.Common.{◌≡◌, drop}
use Rattle.dg_script.specs.Script.{is_comment}
use Rattle.dg_script.proofs.lines.is_comment.Given as goal

abbrev pub invariant-loop-b : goal.invariant-loop-b
invariant-loop-b l = is_comment (drop l.b-index l.line) ≡ is_comment l.line
