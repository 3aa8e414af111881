-- The paths of a project's files differ: those of one sort by their numbers, and those of two sorts by their fourth byte.
use Rattle.std.proofs.Common.{◌≡◌, ◌≢◌, ℕ, zero, suc, ◌+◌, ◌-◌, ◌^◌, ◌≤◌, ◌<◌, Bool, true, false, List, [], ◌∷◌, ◌++◌, map, flat_map, get_or, refl, sym, ap, ◌∙◌, arith}
use Rattle.std.specs.Prelude.{codes, Some, is_none, if◌then◌else◌}
use Rattle.std.specs.List.{All, range_with_len}
use Rattle.std.specs.Str.{bytes_eq}
use Rattle.std.specs.Str.Parse.{digits_value}
use Rattle.std.specs.Fmt.{decimal}
use Rattle.std.proofs.lemmas.Bool.{and_from}
use Rattle.std.proofs.lemmas.List.{append_cancel_left, append_cancel_right}
use Rattle.std.proofs.lemmas.List.Elements.{All-nil, All-cons, All-head, All-tail, All-append}
use Rattle.std.proofs.lemmas.Slice.Eq.{bytes_eq-Decides}
use Rattle.std.proofs.lemmas.Fmt.{decimal_is_IsNumeral_wide}
use Rattle.dg_files.specs.Tree.{File, Tree, bytes_at, are_distinct}
use Rattle.dg_gen.specs.Paths.{script_path, object_path, collection_path}
use Rattle.dg_ptext.specs.Printed.{printed}
use Rattle.dg_gen.specs.Draws.{draw_at}
use Rattle.dg_gen.specs.Files.{file, script_text, object_fields, object_files, outer_file, first_file}
use Rattle.dg_gen.specs.Project.{draws_for}
use Rattle.dg_gen.specs.Laws.{GeneratedPathsDiffer}

-- ---- trees

-- no file of the tree has the path
abbrev Lacks : List ℕ → Tree → Type 0
Lacks path files = All (λ f. f.path ≢ path) files

none_at : (path : List ℕ) (files : Tree) → Lacks path files → is_none (bytes_at files path) ≡ true
none_at path [] h = refl
none_at path (f ∷ files) h =
    by_test (bytes_eq f.path path) refl (none_at path files (All-tail (λ g. g.path ≢ path) f files h))
  where
    by_test : (b : Bool) → bytes_eq f.path path ≡ b → is_none (bytes_at files path) ≡ true →
        is_none (if b then Some f.bytes else bytes_at files path) ≡ true
    by_test true e rest = absurd (All-head (λ g. g.path ≢ path) f files h ((bytes_eq-Decides f.path path).0 e))
    by_test false e rest = rest

-- a file ahead of others
one_ahead : (f : File) (files : Tree) → Lacks f.path files → are_distinct files ≡ true → are_distinct (f ∷ files) ≡ true
one_ahead f files h k = and_from (is_none (bytes_at files f.path)) (are_distinct files) (none_at f.path files h) k

-- files by their numbers
numbered_lack : (make : ℕ → File) (path : List ℕ) (a n : ℕ) → ((j : ℕ) → a ≤ j → j < a + n → (make j).path ≢ path) →
    Lacks path (map make (range_with_len a n))
numbered_lack make path a zero h = All-nil (λ f. f.path ≢ path)
numbered_lack make path a (suc n) h =
    All-cons (λ f. f.path ≢ path) (make a) (map make (range_with_len (a + 1) n)) (h a (omega arith) (omega arith))
    (numbered_lack make path (a + 1) n (λ j low high. h j (omega (arith, low)) (omega (arith, high))))

numbered_distinct : (make : ℕ → File) (a n : ℕ) → ((i j : ℕ) → i < j → j < a + n → (make j).path ≢ (make i).path) →
    are_distinct (map make (range_with_len a n)) ≡ true
numbered_distinct make a zero h = refl
numbered_distinct make a (suc n) h =
    one_ahead (make a) (map make (range_with_len (a + 1) n))
    (numbered_lack make (make a).path (a + 1) n (λ j low high. h a j (omega (arith, low)) (omega (arith, high))))
    (numbered_distinct make (a + 1) n (λ i j lt high. h i j lt (omega (arith, high))))

-- ---- paths

-- the same but for their numbers
same_number : (start ending : List ℕ) (m n : ℕ) → m < 10 ^ 64 → n < 10 ^ 64 → start ++ (decimal m ++ ending) ≡ start ++ (decimal n ++ ending) → m ≡ n
same_number start ending m n p q e =
    let digits : decimal m ≡ decimal n =
    append_cancel_right (decimal m) (decimal n) ending (append_cancel_left start (decimal m ++ ending) (decimal n ++ ending) e) in
    sym (decimal_is_IsNumeral_wide m p).1 ∙ ap (digits_value 10) digits ∙ (decimal_is_IsNumeral_wide n q).1

other_number : (start ending : List ℕ) (m n : ℕ) → m < n → n < 10 ^ 64 → start ++ (decimal n ++ ending) ≢ start ++ (decimal m ++ ending)
other_number start ending m n lt high e = omega (arith, lt, same_number start ending n m high (omega (arith, lt, high)) e)

-- of two sorts: scripts have an s (115), game objects an o (111) and collections a c (99)
other_sort : (p q : List ℕ) (a b : ℕ) → get_or p 3 0 ≡ a → get_or q 3 0 ≡ b → a ≢ b → p ≢ q
other_sort p q a b is other differ e = differ (sym is ∙ ap (λ (l : List ℕ). get_or l 3 0) e ∙ other)

object_script : (m n : ℕ) → object_path m ≢ script_path n
object_script m n = other_sort (object_path m) (script_path n) 111 115 refl refl (λ e. omega (arith, e))

script_object : (m n : ℕ) → script_path m ≢ object_path n
script_object m n = other_sort (script_path m) (object_path n) 115 111 refl refl (λ e. omega (arith, e))

collection_script : (m n : ℕ) → collection_path m ≢ script_path n
collection_script m n = other_sort (collection_path m) (script_path n) 99 115 refl refl (λ e. omega (arith, e))

collection_object : (m n : ℕ) → collection_path m ≢ object_path n
collection_object m n = other_sort (collection_path m) (object_path n) 99 111 refl refl (λ e. omega (arith, e))

-- ---- the files of a project

module _ (draws : List ℕ) (size : ℕ) where
  abbrev outer : List ℕ → ℕ → Tree
  outer ds n = map (outer_file ds size) (range_with_len 0 n)

  abbrev collections : Tree
  collections = first_file draws size ∷ outer draws (size - 1)

  collections_lack : (path : List ℕ) → ((n : ℕ) → collection_path n ≢ path) → Lacks path collections
  collections_lack path h =
      All-cons (λ f. f.path ≢ path) (first_file draws size) (outer draws (size - 1)) (h 0)
      (numbered_lack (outer_file draws size) path 0 (size - 1) (λ j low high. h (j + 1)))

  collections_distinct : size ≤ 10 ^ 64 → are_distinct collections ≡ true
  collections_distinct few =
      one_ahead (first_file draws size) (outer draws (size - 1))
      (numbered_lack (outer_file draws size) (collection_path 0) 0 (size - 1)
      (λ j low high. other_number (codes "/g/c") (codes ".collection") 0 (j + 1) (omega arith) (omega (arith, high, few))))
      (numbered_distinct (outer_file draws size) 0 (size - 1)
      (λ i j lt high. other_number (codes "/g/c") (codes ".collection") (i + 1) (j + 1) (omega (arith, lt)) (omega (arith, high, few))))

  abbrev objects : ℕ → ℕ → Tree
  objects a n = flat_map (object_files draws) (range_with_len a n)

  abbrev script : ℕ → File
  script n = file (script_path n) (script_text (draw_at draws n))

  abbrev object : ℕ → File
  object n = file (object_path n) (printed [] (object_fields n))

  objects_lack : (path : List ℕ) (a n : ℕ) → ((j : ℕ) → a ≤ j → j < a + n → (script_path j ≢ path) × (object_path j ≢ path)) → Lacks path (objects a n)
  objects_lack path a zero h = All-nil (λ f. f.path ≢ path)
  objects_lack path a (suc n) h =
      let here = h a (omega arith) (omega arith) in
      All-cons (λ f. f.path ≢ path) (script a) (object a ∷ objects (a + 1) n) here.0
      (All-cons (λ f. f.path ≢ path) (object a) (objects (a + 1) n) here.1
      (objects_lack path (a + 1) n (λ j low high. h j (omega (arith, low)) (omega (arith, high)))))

  -- in front of the collections
  objects_distinct : size ≤ 10 ^ 64 → (a n : ℕ) → a + n ≤ size → are_distinct (objects a n ++ collections) ≡ true
  objects_distinct few a zero upto = collections_distinct few
  objects_distinct few a (suc n) upto =
      let rest = objects (a + 1) n in
      let no_script : Lacks (script_path a) (rest ++ collections) =
      All-append (λ f. f.path ≢ script_path a) rest collections
      (objects_lack (script_path a) (a + 1) n
      (λ j low high. (other_number (codes "/g/s") (codes ".script") a j (omega (arith, low)) (omega (arith, high, upto, few)), object_script j a)))
      (collections_lack (script_path a) (λ m. collection_script m a)) in
      let no_object : Lacks (object_path a) (rest ++ collections) =
      All-append (λ f. f.path ≢ object_path a) rest collections
      (objects_lack (object_path a) (a + 1) n
      (λ j low high. (script_object j a, other_number (codes "/g/o") (codes ".go") a j (omega (arith, low)) (omega (arith, high, upto, few)))))
      (collections_lack (object_path a) (λ m. collection_object m a)) in
      one_ahead (script a) (object a ∷ (rest ++ collections))
      (All-cons (λ f. f.path ≢ script_path a) (object a) (rest ++ collections) (object_script a a) no_script)
      (one_ahead (object a) (rest ++ collections) no_object (objects_distinct few (a + 1) n (omega (arith, upto))))

pub paths_differ : GeneratedPathsDiffer
paths_differ seed size few = objects_distinct (draws_for seed size) size few 0 size (omega arith)
