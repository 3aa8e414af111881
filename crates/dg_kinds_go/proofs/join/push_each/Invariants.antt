use Rattle.std.proofs.Common.{◌≡◌, ◌++◌, drop, map, string_bytes}
use Rattle.dg_kinds_go.specs.Values.{good_in, text_in}
use Rattle.dg_kinds_go.specs.Join.{each_after}
use Rattle.dg_kinds_go.proofs.join.push_each.Given as goal

abbrev pub invariant-loop-part : goal.invariant-loop-part
invariant-loop-part l =
    string_bytes l.text ++ each_after l.glue (map text_in (map good_in (drop l.part-index l.parts)))
    ≡ string_bytes l.initial.text ++ each_after l.glue (map text_in (map good_in l.parts))
