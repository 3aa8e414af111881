-- What a tree of files says.
use Rattle.std.specs.Prelude.{◌≡◌, ℕ, ◌-◌, List, [], ◌∷◌, ◌++◌, Bool, ◌||◌, cond, filter, length, nat_lt, codes, Option, Some, None, Result, Ok, Err}
use Rattle.dg_base.specs.declared.refusal.Refusal.{Refusal}
use Rattle.dg_base.specs.declared.refusal.Refusal.TheVariants as refusal
use Rattle.dg_base.specs.Refusal.{and_then}
use Rattle.dg_text.specs.Paths.{is_project_path, ends_in}
use Rattle.dg_files.specs.Tree.{Tree, bytes_at, got_of, listing_of}
use Rattle.dg_files.specs.declared.files.Got.{Got}
use Rattle.dg_files.specs.declared.files.Got.TheVariants.{Absent, Whole, Longer}
use Rattle.dg_files.specs.declared.files.Listing.{Listing}
use Rattle.dg_files.specs.declared.files.Listing.TheVariants.{All, More}
use Rattle.dg_sources.specs.declared.limits.Large.{Large}
use Rattle.dg_sources.specs.declared.limits.Large.TheVariants as large
use Rattle.dg_sources.specs.declared.limits.LoadEnd.{LoadEnd}
use Rattle.dg_sources.specs.declared.limits.LoadEnd.TheVariants as end
use Rattle.dg_sources.specs.declared.limits.TheConstants.{MAX_FILES, MAX_FILE, MAX_TOTAL}
use Rattle.dg_sources.specs.declared.source.Sources.{Sources}
use Rattle.dg_sources.specs.Sorting.{sorted, text_before}
use Rattle.dg_sources.specs.Readings.{script_in, object_in, collection_in, unless_gone}

-- ---- paths

-- the project paths among those that are listed, in order
abbrev pub project_paths : List (List ℕ) → List (List ℕ)
project_paths listed = sorted text_before (filter is_project_path listed)

abbrev pub is_read : List ℕ → Bool
is_read path = (ends_in path (codes ".script") || ends_in path (codes ".go")) || ends_in path (codes ".collection")

-- ---- files

-- none of so many files yet
abbrev pub unread_sources : List (List ℕ) → ℕ → Sources
unread_sources paths count = record { paths = paths; scripts = []; objects = []; collections = []; file_count = count }

-- one more file, whose ending tells of which sort it is
abbrev pub with_file : List ℕ → Option (List ℕ) → Sources → Sources
with_file path found s =
    cond (ends_in path (codes ".script")) (record s { scripts = s.scripts ++ record { path = path; read = unless_gone script_in found } ∷ [] })
    (cond (ends_in path (codes ".go")) (record s { objects = s.objects ++ record { path = path; read = unless_gone object_in found } ∷ [] })
    (record s { collections = s.collections ++ record { path = path; read = unless_gone collection_in found } ∷ [] }))

-- what a read finds, where the file isn't too long
abbrev pub found_in : Got → Result (Option (List ℕ)) Large
found_in Absent = Ok None
found_in (Whole bytes) = Ok (Some bytes)
found_in Longer = Err large.File

-- how many bytes may be read behind a file, where so many may be read with it
abbrev pub size_of : Option (List ℕ) → ℕ
size_of None = 0
size_of (Some bytes) = length bytes

abbrev pub room_behind : ℕ → Option (List ℕ) → Result ℕ Large
room_behind room found = cond (nat_lt room (size_of found)) (Err large.Total) (Ok (room - size_of found))

-- one more file, where so many bytes may still be read, and how many may be read behind it
abbrev pub next_file : Tree → ℕ → List ℕ → Sources → Result (ℕ × Sources) Large
next_file tree room path s =
    and_then (found_in (got_of (bytes_at tree path) MAX_FILE)) (λ found.
    and_then (room_behind room found) (λ left. Ok (left, with_file path found s)))

-- the files at these paths, one after the other
abbrev pub with_files : Tree → ℕ → List (List ℕ) → Sources → Result Sources Large
with_files tree room [] s = Ok s
with_files tree room (path ∷ paths) s =
    and_then (next_file tree room path s) (λ next. with_files tree next.0 paths next.1)

-- ---- the whole

-- of so many files none is read
abbrev pub unless_many : List (List ℕ) → Result Sources Large → Result Sources Large
unless_many files read = cond (nat_lt MAX_FILES (length files)) (Err large.Files) read

abbrev pub sources_at : Tree → List (List ℕ) → Result Sources Large
sources_at tree paths =
    unless_many (filter is_read paths)
    (with_files tree MAX_TOTAL (filter is_read paths) (unread_sources paths (length (filter is_read paths))))

abbrev pub listed_sources : Tree → Listing → Result Sources Large
listed_sources tree More = Err large.Files
listed_sources tree (All listed) = sources_at tree (project_paths listed)

-- what the files of a tree say, or the first limit that they pass
abbrev pub sources_of : Tree → Result Sources Large
sources_of tree = listed_sources tree (listing_of tree)

-- what a call that reads the files of a project answers: what is given by the tree that they tell. Where a call of the
-- files failed, or memory was refused, nothing is said
abbrev pub Tells : {X Y : Type 0} → (X → Y) → Result X (Refusal LoadEnd) → Result Y Large → Type 0
Tells view (Ok x) given = given ≡ Ok (view x)
Tells view (Err (refusal.Because end.FileFault)) given = Unit {0}
Tells view (Err (refusal.Because (end.TooLarge limit))) given = given ≡ Err limit
Tells view (Err refusal.NoMemory) given = Unit {0}
