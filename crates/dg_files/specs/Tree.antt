-- A tree of files: what its paths have, what is listed, and what a write leaves.
use Rattle.std.specs.Prelude.{ℕ, ◌==◌, nat_eq, nat_lt, Bool, true, false, not, ◌&&◌, ◌||◌, if◌then◌else◌, List, [], ◌∷◌, length, codes, Option, Some, None, is_none}
use Rattle.std.specs.List.{starts_with}
use Rattle.std.specs.Str.{bytes_eq}
use Rattle.dg_files.specs.declared.files.Got.{Got}
use Rattle.dg_files.specs.declared.files.Got.TheVariants.{Absent, Whole, Longer}
use Rattle.dg_files.specs.declared.files.Listing.{Listing}
use Rattle.dg_files.specs.declared.files.Listing.TheVariants.{All, More}

-- a file: its path and its bytes
pub record File : Type 0 where
  pub path : List ℕ
  pub bytes : List ℕ

abbrev pub Tree : Type 0
Tree = List File

-- the bytes of the file at a path, if there is one
abbrev pub bytes_at : Tree → List ℕ → Option (List ℕ)
bytes_at [] path = None
bytes_at (file ∷ files) path = if bytes_eq file.path path then Some file.bytes else bytes_at files path

-- whether no path stands twice
abbrev pub are_distinct : Tree → Bool
are_distinct [] = true
are_distinct (file ∷ files) = is_none (bytes_at files file.path) && are_distinct files

-- what a read of at most so many bytes finds
abbrev pub got_of : Option (List ℕ) → ℕ → Got
got_of None most = Absent
got_of (Some bytes) most = if nat_lt most (length bytes) then Longer else Whole bytes

-- the tree with these bytes at a path, in place of what is there, or as one more file
abbrev pub written : Tree → List ℕ → List ℕ → Tree
written [] path bytes = record { path = path; bytes = bytes } ∷ []
written (file ∷ files) path bytes =
    if bytes_eq file.path path then record { path = file.path; bytes = bytes } ∷ files
    else file ∷ written files path bytes

-- whether a `.` (46) begins a segment: it stands first, or right behind a `/` (47)
abbrev pub has_hidden : Bool → List ℕ → Bool
has_hidden at_start [] = false
has_hidden at_start (byte ∷ bytes) = (at_start && (byte == 46)) || has_hidden (byte == 47) bytes

-- whether a path is to be given: it doesn't begin with `/build/`, and no segment begins with `.`
abbrev pub is_listed : List ℕ → Bool
is_listed path = not (starts_with nat_eq path (codes "/build/")) && not (has_hidden true path)

-- the paths that are to be given
abbrev pub listed : Tree → List (List ℕ)
listed [] = []
listed (file ∷ files) = if is_listed file.path then file.path ∷ listed files else listed files

-- what a listing finds
abbrev pub listing_of : Tree → Listing
listing_of tree = if nat_lt 65536 (length (listed tree)) then More else All (listed tree)
