-- The canonical text of a game object or a collection.
use Rattle.std.specs.Prelude.{ℕ, List, [], ◌∷◌, ◌++◌, cond, nat_eq, nat_lt, Result, Ok, Err, codes, length}
use Rattle.dg_base.specs.Refusal.{and_then}
use Rattle.dg_text.specs.Paths.{ends_in}
use Rattle.dg_files.specs.Tree.{Tree}
use Rattle.dg_ptext.specs.Printed.{printed}
use Rattle.dg_desc.specs.Trees.{go_tree, coll_tree}
use Rattle.dg_sources.specs.declared.bad.Unread.{Unread}
use Rattle.dg_sources.specs.Readings.{object_in, collection_in}
use Rattle.dg_tool.specs.declared.halt.Halt.{Halt}
use Rattle.dg_tool.specs.declared.halt.Halt.TheVariants as halt
use Rattle.dg_tool.specs.declared.halt.Limit.TheVariants as limit
use Rattle.dg_tool.specs.Text.{max_text}
use Rattle.dg_tool.specs.Input.{bytes_of}

-- a text that says no game object or no collection
abbrev pub or_bad_file : {D : Type 0} → Result D Unread → Result D Halt
or_bad_file (Ok d) = Ok d
or_bad_file (Err u) = Err (halt.BadFile u.line u.code)

-- its text in canonical form: known fields in their order, and the others behind them
abbrev pub formatted_go : List ℕ → Result (List ℕ) Halt
formatted_go bytes = and_then (or_bad_file (object_in bytes)) (λ d. Ok (printed [] (go_tree d)))

abbrev pub formatted_coll : List ℕ → Result (List ℕ) Halt
formatted_coll bytes = and_then (or_bad_file (collection_in bytes)) (λ d. Ok (printed [] (coll_tree d)))

-- the ending of a game object's path; any other file is a collection
abbrev pub game_object : List ℕ
game_object = codes ".go"

abbrev pub formatted : List ℕ → List ℕ → Result (List ℕ) Halt
formatted path bytes = cond (ends_in path game_object) (formatted_go bytes) (formatted_coll bytes)

-- the lines of a text, each with its line feed; the last one may be without
abbrev pub cut_from : List ℕ → List ℕ → List (List ℕ)
cut_from line [] = cond (nat_eq (length line) 0) [] (line ∷ [])
cut_from line (b ∷ bs) = cond (nat_eq b 10) ((line ++ b ∷ []) ∷ cut_from [] bs) (cut_from (line ++ b ∷ []) bs)

abbrev pub cut : List ℕ → List (List ℕ)
cut text = cut_from [] text

-- a text of more than is printed is too large
abbrev pub fitting_text : List ℕ → Result (List (List ℕ)) Halt
fitting_text text = cond (nat_lt max_text (length text)) (Err (halt.TooLarge limit.Text)) (Ok (cut text))

-- the file at a path, formatted
abbrev pub formatted_in : Tree → List ℕ → Result (List (List ℕ)) Halt
formatted_in tree path = and_then (and_then (bytes_of tree limit.File path) (formatted path)) fitting_text
