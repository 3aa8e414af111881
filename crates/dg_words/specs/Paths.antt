-- Words that are paths. A path gets a slash before it where it has none, and must then be a project path.
use Rattle.std.specs.Prelude.{List, [], ◌∷◌, ℕ, Bool, cond, ◌==◌, ◌&&◌, ◌||◌, nat_le, Option, Some, None, Result, Ok, Err, length, count_by, codes}
use Rattle.dg_base.specs.Refusal.{and_then}
use Rattle.dg_text.specs.Paths.{ends_in, is_slash, is_project_path}
use Rattle.dg_words.specs.declared.task.Usage.{Usage}

-- the one cause of a refusal
abbrev pub usage : {X : Type 0} → Result X Usage
usage = Err (record {})

-- what passes the test is the answer
abbrev pub checked : {X : Type 0} → Bool → X → Result X Usage
checked passes x = cond passes (Ok x) usage

abbrev pub rooted : List ℕ → List ℕ
rooted [] = 47 ∷ []
rooted (b ∷ bs) = cond (is_slash b) (b ∷ bs) (47 ∷ b ∷ bs)

abbrev pub path_of : Option (List ℕ) → Result (List ℕ) Usage
path_of None = usage
path_of (Some text) = checked (is_project_path (rooted text)) (rooted text)

-- a path that is built is at most 16,382 bytes long and has at most 64 `@`
abbrev pub is_at : ℕ → Bool
is_at b = b == 64

abbrev pub is_built : List ℕ → Bool
is_built path = nat_le (length path) 16382 && nat_le (count_by is_at path) 64

abbrev pub built_path_of : Option (List ℕ) → Result (List ℕ) Usage
built_path_of text = and_then (path_of text) (λ path. checked (is_built path) path)

-- a path that is formatted is that of a game object or a collection
abbrev pub is_formatted : List ℕ → Bool
is_formatted path = ends_in path (codes ".go") || ends_in path (codes ".collection")

abbrev pub formatted_path_of : Option (List ℕ) → Result (List ℕ) Usage
formatted_path_of text = and_then (path_of text) (λ path. checked (is_formatted path) path)
