-- The paths of a generated project, by the numbers of their files.
use Rattle.std.specs.Prelude.{ℕ, List, ◌++◌, codes}
use Rattle.std.specs.Fmt.{decimal}

abbrev pub script_path : ℕ → List ℕ
script_path number = codes "/g/s" ++ (decimal number ++ codes ".script")

abbrev pub object_path : ℕ → List ℕ
object_path number = codes "/g/o" ++ (decimal number ++ codes ".go")

abbrev pub collection_path : ℕ → List ℕ
collection_path number = codes "/g/c" ++ (decimal number ++ codes ".collection")
