-- What a tree of chunks holds, and when it is balanced.
use Rattle.std.specs.Prelude.{◌≡◌, ℕ, ◌+◌, ◌<◌, ◌≤◌, Bool, max, Option, Some, None, List, [], ◌++◌, length}
use Rattle.std.specs.Arc.{arc_value}
use Rattle.std.specs.Map.{remove_entry}
use Rattle.std.specs.declared.sync.Arc.{Arc}
use Rattle.std.specs.declared.alloc.Global.{Global}
use Rattle.dg_pmap.specs.declared.tree.Body.{Body}
use Rattle.dg_pmap.specs.declared.tree.Body.TheVariants.{Leaf, Fork}
use Rattle.dg_pmap.specs.declared.entries.TheConstants.{CHUNK}
use Rattle.dg_pmap.specs.Heights.{fewest}
use Rattle.dg_pmap.specs.Firsts.{first_key_of}

-- the pairs of a node in key order: a child is seen as its pairs and its height
abbrev pub pairs_in : {K X : Type 0} → Body K X → List (K × X)
pairs_in (Leaf entries) = entries.items
pairs_in (Fork low split high) = (arc_value low).0 ++ (arc_value high).0

abbrev pub pairs_of : {K X : Type 0} → Option (Arc (List (K × X) × ℕ) Global) → List (K × X)
pairs_of None = []
pairs_of (Some t) = (arc_value t).0

-- a chunk: at least one pair, and no more than one block has room for
pub record IsChunk {K X : Type 0} (height : ℕ) (entries : List (K × X)) : Type 0 where
  pub flat : height ≡ 0
  pub some : 0 < length entries
  pub few : length entries ≤ CHUNK

-- a fork: its halves are of about one height, and no smaller than that height takes
pub record IsFork {K X : Type 0} (height : ℕ) (low : List (K × X) × ℕ) (split : K) (high : List (K × X) × ℕ) : Type 0 where
  pub tall : height ≡ max low.1 high.1 + 1
  pub low_near : low.1 ≤ high.1 + 1
  pub high_near : high.1 ≤ low.1 + 1
  pub low_filled : fewest low.1 ≤ length low.0
  pub high_filled : fewest high.1 ≤ length high.0
  pub splits : first_key_of high.0 ≡ Some split

abbrev pub IsShaped : {K X : Type 0} → ℕ → Body K X → Type 0
IsShaped h (Leaf entries) = IsChunk h entries.items
IsShaped h (Fork low split high) = IsFork h (arc_value low) split (arc_value high)

-- the pair is out of the tree, or out of what is to stand in its place
abbrev pub LeavesAfter : {K X : Type 0} → (K → Bool) → List (K × X) → Option (Option (Arc (List (K × X) × ℕ) Global)) → List (K × X) → Type 0
LeavesAfter test old None new = new ≡ remove_entry test old
LeavesAfter test old (Some rest) new = pairs_of rest ≡ remove_entry test old
