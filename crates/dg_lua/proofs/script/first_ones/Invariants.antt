use Rattle.std.proofs.Common.{◌≡◌, [], ◌++◌, drop, map}
use Rattle.dg_lua.specs.Script.{declared_in, first_ones}
use Rattle.dg_lua.proofs.script.first_ones.Given as goal

abbrev pub invariant-loop-line : goal.invariant-loop-line
invariant-loop-line l =
    l.found.items ++ first_ones l.ids (declared_in (map (λ l. l.now) (drop l.line-index l.lines))) ≡ first_ones [] (declared_in (map (λ l. l.now) l.lines))
