use Rattle.std.proofs.Common.{◌≡◌, ◌++◌, drop, filter, map, string_bytes}
use Rattle.dg_text.specs.Paths.{is_project_path}
use Rattle.dg_sources.proofs.sorting.texts_of.Given as goal

abbrev pub invariant-loop-path : goal.invariant-loop-path
invariant-loop-path l =
    map string_bytes l.texts.items ++ filter is_project_path (drop l.path-index l.listed) ≡ filter is_project_path l.listed
