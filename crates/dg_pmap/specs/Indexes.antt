-- An index of a map: a second map in which each key names a key of the first one, and where what stands
-- at a key follows from what stands there in the first.
use Rattle.std.specs.Prelude.{◌≡◌, Bool, cond, Option, Some, None, List}
use Rattle.std.specs.Map.{lookup}
use Rattle.std.specs.BTreeMap.{is_at}
use Rattle.std.specs.declared.cmp.Ordering.{Ordering}

-- what the index has at j, by what stands at the key that j names
abbrev pub chosen : {J X Y : Type 0} → (J → X → Bool) → (X → Y) → J → Option X → Option Y
chosen takes gives j None = None
chosen takes gives j (Some x) = cond (takes j x) (Some (gives x)) None

-- `names` is the key that one of the index names, `takes` tells whether the value there is in the index
-- at that key, and `gives` what the index has of the value
abbrev pub IsIndex : {K X J Y : Type 0} → (K → K → Ordering) → (J → J → Ordering) → (J → K) → (J → X → Bool) → (X → Y) → List (K × X) → List (J × Y) → Type 0
IsIndex {K} {X} {J} {Y} cmp index_cmp names takes gives es index = (j : J) → lookup (is_at (index_cmp j)) index ≡ chosen takes gives j (lookup (is_at (cmp (names j))) es)
