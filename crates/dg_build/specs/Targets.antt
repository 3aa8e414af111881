-- The build files of a value: first the contents of embedded components, then the texts of a collection's
-- objects, each different one once and in order of first appearance, and last the text of the value itself.
use Rattle.std.specs.Prelude.{ℕ, List, [], ◌∷◌, ◌++◌, cond, bytes_eq, Some, map}
use Rattle.std.specs.List.{enumerate_from}
use Rattle.dg_base.specs.declared.datum.Datum.{Datum}
use Rattle.dg_build.specs.declared.target.Target.{Target}
use Rattle.dg_build.specs.Firsts.{firsts}
use Rattle.dg_build.specs.Paths.{is_of_collection, stem_of, component_path, object_path, collection_path, game_object_path}
use Rattle.dg_build.specs.Contents.{Content, same_content, contents_in, path_in, entries_in, object_in}
use Rattle.dg_build.specs.Objects.{object_text}
use Rattle.dg_build.specs.Entries.{collection_text}

abbrev pub target : List ℕ → List ℕ → Target
target path bytes = record { path = path; bytes = bytes }

-- the different contents of embedded components
abbrev pub different_contents : Datum → List Content
different_contents built = firsts same_content (contents_in built)

abbrev pub component_targets : List ℕ → List Content → List Target
component_targets stem contents = map (λ c. target (component_path stem c.0 c.1.kind) c.1.body) (enumerate_from 0 contents)

abbrev pub object_targets : List ℕ → List (List ℕ) → List Target
object_targets stem texts = map (λ t. target (object_path stem t.0) t.1) (enumerate_from 0 texts)

-- each entry of a collection with its object's text
abbrev pub entries_with_texts : List ℕ → List Content → List (List ℕ) → List Datum → List (Datum × List ℕ)
entries_with_texts stem contents names entries = map (λ e. (e, object_text stem contents names (object_in e))) entries

abbrev pub collection_targets : List ℕ → Datum → List (Datum × List ℕ) → List Target
collection_targets stem built entries =
    let texts = firsts bytes_eq (map (λ e. e.1) entries) in
    object_targets stem texts
    ++ target (collection_path stem) (collection_text stem texts built entries) ∷ []

abbrev pub game_object_targets : List ℕ → List Content → List (List ℕ) → Datum → List Target
game_object_targets stem contents names built =
    target (game_object_path stem) (object_text stem contents names (Some built)) ∷ []

-- the files behind those of components
abbrev pub whole_targets : List ℕ → List Content → List (List ℕ) → Datum → List Target
whole_targets stem contents names built =
    cond (is_of_collection (path_in built))
    (collection_targets stem built (entries_with_texts stem contents names (entries_in built)))
    (game_object_targets stem contents names built)

abbrev pub targets_with : List ℕ → List Content → List (List ℕ) → Datum → List Target
targets_with stem contents names built = component_targets stem contents ++ whole_targets stem contents names built

abbrev pub targets : Datum → List (List ℕ) → List Target
targets built names = targets_with (stem_of (path_in built)) (different_contents built) names built
