-- The paths of build files. They stand beside the file that is built: the path of each begins with the stem,
-- which is that file's path without its ending.
use Rattle.std.specs.Prelude.{ℕ, ◌-◌, List, ◌++◌, Bool, cond, codes, length, take}
use Rattle.std.specs.Fmt.{decimal}
use Rattle.dg_text.specs.Paths.{ends_in}

-- a path without this ending, where it has it
abbrev pub without_ending : List ℕ → List ℕ → List ℕ
without_ending path ending = cond (ends_in path ending) (take (length path - length ending) path) path

abbrev pub is_of_collection : List ℕ → Bool
is_of_collection path = ends_in path (codes ".collection")

abbrev pub stem_of : List ℕ → List ℕ
stem_of path =
    cond (is_of_collection path) (without_ending path (codes ".collection")) (without_ending path (codes ".go"))

-- a component of this type and an object by their numbers
abbrev pub component_path : List ℕ → ℕ → List ℕ → List ℕ
component_path stem number kind = stem ++ (codes "_component_" ++ (decimal number ++ (codes "." ++ (kind ++ codes "c"))))

abbrev pub object_path : List ℕ → ℕ → List ℕ
object_path stem number = stem ++ (codes "_object_" ++ (decimal number ++ codes ".goc"))

-- what a resource is built as
abbrev pub resource_path : List ℕ → List ℕ
resource_path path = path ++ codes "c"

-- what the whole is built as
abbrev pub collection_path : List ℕ → List ℕ
collection_path stem = stem ++ codes ".collectionc"

abbrev pub game_object_path : List ℕ → List ℕ
game_object_path stem = stem ++ codes ".goc"
