-- What a project becomes.
use Rattle.std.specs.Prelude.{ℕ, List, [], fold, Result, Ok, Err}
use Rattle.dg_base.specs.Names.{interned}
use Rattle.dg_files.specs.Tree.{Tree}
use Rattle.dg_sources.specs.declared.limits.Large.{Large}
use Rattle.dg_sources.specs.declared.source.Sources.{Sources}
use Rattle.dg_sources.specs.declared.source.CollSource.{CollSource}
use Rattle.dg_sources.specs.Sorting.{sorted, bad_before}
use Rattle.dg_sources.specs.Project.{sources_of}
use Rattle.dg_load.specs.declared.draft.Draft.{Draft}
use Rattle.dg_load.specs.declared.state.Load.{Load}
use Rattle.dg_load.specs.declared.whole.Loaded.{Loaded}
use Rattle.dg_load.specs.State.{start}
use Rattle.dg_load.specs.Scripts.{scripts}
use Rattle.dg_load.specs.Objects.{object_files}
use Rattle.dg_load.specs.Collections.{collection_files, fill_all}
use Rattle.dg_load.specs.Order.{order_of}

-- the collections are filled in their order
abbrev pub all_filled : List (List ℕ) → List CollSource → Load → Load
all_filled listed sources l = fill_all listed sources (order_of sources l.collection_files) l

-- scripts, then game objects, then the nodes of the collections, then what fills these
abbrev pub parts_behind : List (List ℕ) → Sources → Load → Load
parts_behind listed s l =
    all_filled listed s.collections (collection_files s.collections (object_files listed s.objects (scripts s.scripts l)))

-- the paths that are listed, each once
unfoldable pub all_parts : Sources → Load → Load
all_parts s l = parts_behind (fold interned [] s.paths) s l

abbrev pub draft_in : Sources → List (List ℕ) → Draft
draft_in s names = (all_parts s (start names)).draft

abbrev pub loaded_by : ℕ → Draft → Loaded
loaded_by count d = record { steps = d.steps; bound = d.bound; bad = sorted bad_before d.bad; file_count = count }

-- what the files of a project become, where these names are interned, and the names that are interned then
abbrev pub loaded_in : Sources → List (List ℕ) → Loaded
loaded_in s names = loaded_by s.file_count (draft_in s names)

abbrev pub names_in : Sources → List (List ℕ) → List (List ℕ)
names_in s names = (draft_in s names).names

-- ---- the load of a tree

abbrev pub of_sources : List (List ℕ) → Result Sources Large → Result (Loaded × List (List ℕ)) Large
of_sources names (Ok s) = Ok (loaded_in s names, names_in s names)
of_sources names (Err limit) = Err limit

-- its steps, its names and its bad places, and the interned names then, or the first limit that it passes
abbrev pub load_of : Tree → List (List ℕ) → Result (Loaded × List (List ℕ)) Large
load_of tree names = of_sources names (sources_of tree)
