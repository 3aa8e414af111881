use Rattle.std.proofs.Common.{◌≡◌, drop, fold}
use Rattle.dg_tool.specs.Project.{bind_next}
use Rattle.dg_tool.proofs.project.bind_loaded.Given as goal

abbrev pub invariant-loop-next : goal.invariant-loop-next
invariant-loop-next l = fold (bind_next l.made) l.bound (drop l.next-index l.loaded) ≡ fold (bind_next l.made) l.initial.bound l.loaded
