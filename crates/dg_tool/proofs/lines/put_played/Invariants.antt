use Rattle.std.proofs.Common.{◌≡◌, ◌++◌, map}
use Rattle.std.specs.Vec.Iter.{into_iter_items}
use Rattle.dg_kinds_coll.specs.Defold.{defold_tables}
use Rattle.dg_tool.specs.Seen.{line_piece}
use Rattle.dg_tool.proofs.lines.put_played.Given as goal

abbrev pub invariant-loop-line : goal.invariant-loop-line
invariant-loop-line l = record {
  page : l.page ≡ l.initial.page ++ map (line_piece defold_tables l.names) l.yielded;
  rest : l.yielded ++ into_iter_items l.line-iterator ≡ l.fn.lines.items;
}
