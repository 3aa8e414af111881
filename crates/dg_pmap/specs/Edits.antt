-- What putting a pair does to some pairs, where it may not be done.
use Rattle.std.specs.Prelude.{◌≡◌, ℕ, Bool, true, false, Option, Some, None, List, length, Result, Ok, Err, is_some}
use Rattle.std.specs.declared.cmp.Ordering.{Ordering}
use Rattle.std.specs.declared.alloc.AllocError.{AllocError}
use Rattle.std.specs.Map.{lookup, remove_entry}
use Rattle.std.specs.BTreeMap.{is_at, insert_entry}
use Rattle.dg_pmap.specs.Firsts.{first_key_of}

-- The pair is put, and whether its key was there; or the value comes back, the key isn't there and the pairs stay.
abbrev pub Places : {K X : Type 0} → (K → K → Ordering) → List (K × X) → K → X → Result Bool X → List (K × X) → Type 0
Places cmp old k v (Ok there) new = (new ≡ insert_entry cmp old k v) × (there ≡ is_some (lookup (is_at (cmp k)) old))
Places cmp old k v (Err back) new = (new ≡ old) × (back ≡ v) × (is_some (lookup (is_at (cmp k)) old) ≡ false)

-- for a chunk: with no memory the pairs stay
abbrev pub PutsInChunk : {K X : Type 0} → (K → K → Ordering) → List (K × X) → K → X → Result (Result Bool X) AllocError → List (K × X) → Type 0
PutsInChunk cmp old k v (Ok done) new = Places cmp old k v done new
PutsInChunk cmp old k v (Err e) new = new ≡ old

-- for a tree: beside that, how many pairs there are now
abbrev pub Puts : {K X : Type 0} → (K → K → Ordering) → List (K × X) → K → X → Result (ℕ × Result Bool X) AllocError → List (K × X) → Type 0
Puts cmp old k v (Ok r) new = (r.0 ≡ length new) × Places cmp old k v r.1 new
Puts cmp old k v (Err e) new = new ≡ old

-- The first key is the one told, or as before.
abbrev pub IsFirst : {K X : Type 0} → List (K × X) → Option K → List (K × X) → Type 0
IsFirst old None new = first_key_of new ≡ first_key_of old
IsFirst old (Some k) new = first_key_of new ≡ Some k

-- The pair is taken out of a tree; or the pairs stay, since the shape has to change first or there was no memory.
abbrev pub Takes : {K X : Type 0} → (K → K → Ordering) → List (K × X) → K → Result (Option (ℕ × Option K)) AllocError → List (K × X) → Type 0
Takes cmp old k (Ok (Some r)) new = (r.0 ≡ length new) × (new ≡ remove_entry (is_at (cmp k)) old) × IsFirst old r.1 new
Takes cmp old k (Ok None) new = new ≡ old
Takes cmp old k (Err e) new = new ≡ old
