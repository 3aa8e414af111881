use Rattle.std.proofs.Common.{◌≡◌, ◌++◌, map}
use Rattle.std.specs.Vec.Iter.{into_iter_items}
use Rattle.dg_play.specs.Desk.{answers_in}
use Rattle.dg_play.specs.Seen.{line_of}
use Rattle.dg_shared.proofs.filling.filled.Given as goal

abbrev pub invariant-loop-line : goal.invariant-loop-line
invariant-loop-line l = record {
  lines : l.filled.items ≡ l.yielded;
  rest : l.yielded ++ into_iter_items l.line-iterator ≡ l.fn.lines.items;
  answers : into_iter_items l.answers ≡ answers_in (map line_of (into_iter_items l.line-iterator));
}
