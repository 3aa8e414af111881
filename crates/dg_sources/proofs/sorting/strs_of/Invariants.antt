use Rattle.std.proofs.Common.{◌≡◌, ◌++◌, drop, map, string_bytes}
use Rattle.dg_sources.proofs.sorting.strs_of.Given as goal

abbrev pub invariant-loop-text : goal.invariant-loop-text
invariant-loop-text l = l.paths ++ map string_bytes (drop l.text-index l.texts) ≡ map string_bytes l.texts
