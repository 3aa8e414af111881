-- The files of a generated project.
use Rattle.std.specs.Prelude.{ℕ, ◌+◌, ◌*◌, ◌-◌, List, [], ◌∷◌, ◌++◌, map, flat_map, codes}
use Rattle.std.specs.List.{range_with_len}
use Rattle.std.specs.Fmt.{decimal}
use Rattle.dg_files.specs.Tree.{File, Tree}
use Rattle.dg_ptext.specs.declared.tree.Field.{Field}
use Rattle.dg_ptext.specs.declared.tree.Value.{Value}
use Rattle.dg_ptext.specs.declared.tree.Value.TheVariants as value
use Rattle.dg_ptext.specs.Printed.{printed}
use Rattle.dg_gen.specs.Draws.{draw_at}
use Rattle.dg_gen.specs.Paths.{script_path, object_path, collection_path}

abbrev pub file : List ℕ → List ℕ → File
file path bytes = record { path = path; bytes = bytes }

-- a field; its line isn't printed
abbrev pub field : List ℕ → Value → Field
field name v = record { name = name; line = 1; value = v }

-- a script declares a speed
abbrev pub script_text : ℕ → List ℕ
script_text speed = codes "go.property(\"speed\", " ++ (decimal speed ++ codes ")\n")

-- a game object has one component, of the script with its number
abbrev pub component_fields : ℕ → List Field
component_fields number =
    field (codes "id") (value.Quoted (codes "s"))
    ∷ field (codes "component") (value.Quoted (script_path number))
    ∷ []

abbrev pub object_fields : ℕ → List Field
object_fields number = field (codes "components") (value.Message (component_fields number)) ∷ []

-- a position so far along x; a zero is written too
abbrev pub position_fields : ℕ → List Field
position_fields x = field (codes "x") (value.Bare (decimal x)) ∷ []

-- what stands in a collection: its id, the field that names its file, that file, and how far along x it stands
abbrev pub placed_fields : List ℕ → List ℕ → List ℕ → ℕ → List Field
placed_fields id source path x =
    field (codes "id") (value.Quoted id)
    ∷ field source (value.Quoted path)
    ∷ field (codes "position") (value.Message (position_fields x))
    ∷ []

abbrev pub name_field : ℕ → Field
name_field number = field (codes "name") (value.Quoted (codes "c" ++ decimal number))

-- the game object with the collection's number
abbrev pub instance_field : ℕ → ℕ → Field
instance_field number x =
    field (codes "instances") (value.Message (placed_fields (codes "a") (codes "prototype") (object_path number) x))

-- the collection before
abbrev pub inner_field : ℕ → ℕ → Field
inner_field number x =
    field (codes "collection_instances") (value.Message (placed_fields (codes "b") (codes "collection") (collection_path number) x))

abbrev pub first_fields : ℕ → List Field
first_fields x = name_field 0 ∷ instance_field 0 x ∷ []

-- the collection that has the one with this number in it
abbrev pub outer_fields : ℕ → ℕ → ℕ → List Field
outer_fields number x y = name_field (number + 1) ∷ instance_field (number + 1) x ∷ inner_field number y ∷ []

abbrev pub object_files : List ℕ → ℕ → List File
object_files draws number =
    file (script_path number) (script_text (draw_at draws number))
    ∷ file (object_path number) (printed [] (object_fields number))
    ∷ []

-- the collection around another, with the draws behind those of the scripts and of the collections before it
abbrev pub outer_file : List ℕ → ℕ → ℕ → File
outer_file draws size number =
    file (collection_path (number + 1))
    (printed [] (outer_fields number (draw_at draws (size + 1 + 2 * number)) (draw_at draws (size + 2 + 2 * number))))

abbrev pub first_file : List ℕ → ℕ → File
first_file draws size = file (collection_path 0) (printed [] (first_fields (draw_at draws size)))

abbrev pub files_of : List ℕ → ℕ → Tree
files_of draws size =
    flat_map (object_files draws) (range_with_len 0 size)
    ++ first_file draws size
    ∷ map (outer_file draws size) (range_with_len 0 (size - 1))
