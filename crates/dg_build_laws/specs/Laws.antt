-- What holds of the build files of every sound graph, as statements that contracts name.
use Rattle.std.specs.Prelude.{◌≡◌, ◌≢◌, ℕ, List, ◌++◌, IsTrue}
use Rattle.std.specs.List.{list_all, AllPairs}
use Rattle.dg_text.specs.Paths.{is_project_path}
use Rattle.dg_base.specs.declared.ids.NodeId.{NodeId}
use Rattle.dg_base.specs.declared.ids.Endpoint.{Endpoint}
use Rattle.dg_base.specs.declared.datum.Datum.{Datum}
use Rattle.dg_base.specs.Graph.{Graph}
use Rattle.dg_base.specs.Sound.{IsSound}
use Rattle.dg_base.specs.Value.{good, value_at}
use Rattle.dg_labels.specs.declared.labels.TheConstants.{BUILD}
use Rattle.dg_kinds_coll.specs.Defold.{defold_tables}
use Rattle.dg_build.specs.declared.target.Target.{Target}
use Rattle.dg_build.specs.Targets.{targets}

-- the output `build` of a node
abbrev pub build_of : NodeId → Endpoint
build_of n = record { node = n; label = BUILD }

-- what holds of the build files of each node whose output `build` gives a value
abbrev pub OfBuildFiles : (List Target → Type 0) → Type 0
OfBuildFiles holds =
    (g : Graph) → IsSound defold_tables g → (n : NodeId) (built : Datum) (names : List (List ℕ)) →
    value_at defold_tables g (build_of n) ≡ good built → holds (targets built names)

-- each has a project path
abbrev pub BuildFilesHavePaths : Type 0
BuildFilesHavePaths = OfBuildFiles (λ files. IsTrue (list_all (λ f. is_project_path f.path) files))

-- and has one behind that of any folder too, so it stays below the folder that it is written in
abbrev pub BuildFilesStayBelow : Type 0
BuildFilesStayBelow =
    (folder : List ℕ) → IsTrue (is_project_path folder) → OfBuildFiles (λ files. IsTrue (list_all (λ f. is_project_path (folder ++ f.path)) files))

-- no two have one path, so none is written in another's place
abbrev pub BuildFilesDiffer : Type 0
BuildFilesDiffer = OfBuildFiles (AllPairs (λ f h. f.path ≢ h.path))
