-- What is kept is what its tree says: a look-up, a write in place, a write of a new path, distinct paths.
use Rattle.std.proofs.Common.{◌≡◌, ◌≢◌, ℕ, suc, ◌<◌, ◌≤◌, Bool, true, false, if◌then◌else◌, is_none, List, [], ◌∷◌, ◌++◌, length, bytes_eq, Some, None, slice_get, slice_set, slice_index_or, String, Vec, string_bytes, refl, sym, ◌∙◌, ap, subst, arith}
use Rattle.std.proofs.lemmas.Bool.{and_parts}
use Rattle.std.specs.Option.{option_map}
use Rattle.std.specs.declared.alloc.Global.{Global}
use Rattle.std.specs.Cmp.Lexicographic.{bytes_decides}
use Rattle.dg_files.specs.Tree.{Tree, bytes_at, written, are_distinct}
use Rattle.dg_files.specs.Kept.{Entry, tree_of, place_in}

pub bytes_at-tree_of : (files : List Entry) (path : List ℕ) →
    bytes_at (tree_of files) path ≡ option_map (λ f. f.1.items) (slice_get files (place_in (tree_of files) path))
bytes_at-tree_of [] path = refl
bytes_at-tree_of (file ∷ files) path =
    elim (bytes_eq (string_bytes file.0) path) as (λ same.
    (if same then Some file.1.items else bytes_at (tree_of files) path)
    ≡ option_map (λ f. f.1.items) (slice_get (file ∷ files) (if same then 0 else suc (place_in (tree_of files) path))))
    [ true ↦ refl | false ↦ bytes_at-tree_of files path ]

pub tree_of-slice_set : (files : List Entry) (path : List ℕ) (entry : Entry) (bytes : Vec ℕ Global) →
    place_in (tree_of files) path < length files →
    entry ≡ slice_index_or files (place_in (tree_of files) path) entry →
    tree_of (slice_set files (place_in (tree_of files) path) (entry.0, bytes)) ≡ written (tree_of files) path bytes.items
tree_of-slice_set [] path entry bytes within is = absurd (omega arith)
tree_of-slice_set (file ∷ files) path entry bytes within is =
    by_case (bytes_eq (string_bytes file.0) path) (tree_of-slice_set files path entry bytes) within is
  where
    by_case : (same : Bool) →
        (place_in (tree_of files) path < length files →
        entry ≡ slice_index_or files (place_in (tree_of files) path) entry →
        tree_of (slice_set files (place_in (tree_of files) path) (entry.0, bytes)) ≡ written (tree_of files) path bytes.items) →
        (if same then 0 else suc (place_in (tree_of files) path)) < suc (length files) →
        entry ≡ slice_index_or (file ∷ files) (if same then 0 else suc (place_in (tree_of files) path)) entry →
        tree_of (slice_set (file ∷ files) (if same then 0 else suc (place_in (tree_of files) path)) (entry.0, bytes))
        ≡ (if same then record { path = string_bytes file.0; bytes = bytes.items } ∷ tree_of files
        else record { path = string_bytes file.0; bytes = file.1.items } ∷ written (tree_of files) path bytes.items)
    by_case true rest within is = ap (λ (e : Entry). tree_of ((e.0, bytes) ∷ files)) is
    by_case false rest within is =
        ap (λ (t : Tree). record { path = string_bytes file.0; bytes = file.1.items } ∷ t) (rest (omega arith) is)

-- the same at a place and bytes that are known by equations
pub tree_of-set_at : (files : List Entry) (path all : List ℕ) (place : ℕ) (entry : Entry) (bytes : Vec ℕ Global) →
    place ≡ place_in (tree_of files) path → place < length files → entry ≡ slice_index_or files place entry → bytes.items ≡ all →
    tree_of (slice_set files place (entry.0, bytes)) ≡ written (tree_of files) path all
tree_of-set_at files path all place entry bytes there within is holds =
    ap (λ n. tree_of (slice_set files n (entry.0, bytes))) there
    ∙ tree_of-slice_set files path entry bytes (subst (λ n. n < length files) there within) (is ∙ ap (λ n. slice_index_or files n entry) there)
    ∙ ap (λ bs. written (tree_of files) path bs) holds

pub tree_of-append : (files : List Entry) (path : List ℕ) (name : String Global) (bytes : Vec ℕ Global) →
    length files ≤ place_in (tree_of files) path → string_bytes name ≡ path →
    tree_of (files ++ (name, bytes) ∷ []) ≡ written (tree_of files) path bytes.items
tree_of-append [] path name bytes beyond is = ap (λ (p : List ℕ). record { path = p; bytes = bytes.items } ∷ []) is
tree_of-append (file ∷ files) path name bytes beyond is =
    by_case (bytes_eq (string_bytes file.0) path) (λ b. tree_of-append files path name bytes b is) beyond
  where
    by_case : (same : Bool) →
        (length files ≤ place_in (tree_of files) path → tree_of (files ++ (name, bytes) ∷ []) ≡ written (tree_of files) path bytes.items) →
        suc (length files) ≤ (if same then 0 else suc (place_in (tree_of files) path)) →
        record { path = string_bytes file.0; bytes = file.1.items } ∷ tree_of (files ++ (name, bytes) ∷ [])
        ≡ (if same then record { path = string_bytes file.0; bytes = bytes.items } ∷ tree_of files
        else record { path = string_bytes file.0; bytes = file.1.items } ∷ written (tree_of files) path bytes.items)
    by_case true rest beyond = absurd (omega arith)
    by_case false rest beyond =
        ap (λ (t : Tree). record { path = string_bytes file.0; bytes = file.1.items } ∷ t) (rest (omega arith))

-- a write leaves the other paths what they have
pub bytes_at-written : (files : Tree) (path bytes other : List ℕ) → bytes_eq path other ≡ false →
    bytes_at (written files path bytes) other ≡ bytes_at files other
bytes_at-written [] path bytes other differs = ap (λ b. if b then Some bytes else None) differs
bytes_at-written (file ∷ files) path bytes other differs =
    by_case (bytes_eq file.path path) (bytes_decides file.path path).0 (bytes_at-written files path bytes other differs)
  where
    by_case : (same : Bool) → (same ≡ true → file.path ≡ path) →
        bytes_at (written files path bytes) other ≡ bytes_at files other →
        bytes_at (if same then record { path = file.path; bytes = bytes } ∷ files else file ∷ written files path bytes) other
        ≡ (if bytes_eq file.path other then Some file.bytes else bytes_at files other)
    by_case true is rest =
        let off : bytes_eq file.path other ≡ false = ap (λ p. bytes_eq p other) (is refl) ∙ differs in
        rw off refl
    by_case false is rest = ap (λ t. if bytes_eq file.path other then Some file.bytes else t) rest

-- a write keeps the paths distinct
pub are_distinct-written : (files : Tree) (path bytes : List ℕ) → are_distinct files ≡ true →
    are_distinct (written files path bytes) ≡ true
are_distinct-written [] path bytes distinct = refl
are_distinct-written (file ∷ files) path bytes distinct =
    by_case (bytes_eq file.path path) (bytes_decides file.path path).1
    (are_distinct-written files path bytes (and_parts (is_none (bytes_at files file.path)) (are_distinct files) distinct).1)
  where
    differs : (same : Bool) → (bytes_eq path file.path ≡ same) → (path ≡ file.path → false ≡ true) → same ≡ false
    differs false e others = refl
    differs true e others = sym (others ((bytes_decides path file.path).0 e))

    by_case : (same : Bool) → (file.path ≡ path → same ≡ true) →
        are_distinct (written files path bytes) ≡ true →
        are_distinct (if same then record { path = file.path; bytes = bytes } ∷ files else file ∷ written files path bytes) ≡ true
    by_case true is rest = distinct
    by_case false is rest =
        let off = differs (bytes_eq path file.path) refl (λ e. is (sym e)) in
        rw (bytes_at-written files path bytes file.path off, rest, (and_parts (is_none (bytes_at files file.path)) (are_distinct files) distinct).0) refl

-- a write is read back
pub bytes_at-written_same : (files : Tree) (path bytes : List ℕ) → bytes_at (written files path bytes) path ≡ Some bytes
bytes_at-written_same [] path bytes =
    ap (λ same. if same then Some bytes else None) ((bytes_decides path path).1 refl)
bytes_at-written_same (file ∷ files) path bytes =
    by_case (bytes_eq file.path path) refl (bytes_at-written_same files path bytes)
  where
    by_case : (same : Bool) → bytes_eq file.path path ≡ same → bytes_at (written files path bytes) path ≡ Some bytes →
        bytes_at (if same then record { path = file.path; bytes = bytes } ∷ files else file ∷ written files path bytes) path ≡ Some bytes
    by_case true is rest = rw is refl
    by_case false is rest = rw is rest

-- paths that differ are told apart
pub bytes_eq-differs : (path other : List ℕ) → other ≢ path → bytes_eq path other ≡ false
bytes_eq-differs path other differs = by_case (bytes_eq path other) (bytes_decides path other).0
  where
    by_case : (same : Bool) → (same ≡ true → path ≡ other) → same ≡ false
    by_case false is = refl
    by_case true is = absurd (differs (sym (is refl)))
