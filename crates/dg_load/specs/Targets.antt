-- The component that ids name: the collections on the way, the instance in the last one, and the component's own id.
use Rattle.std.specs.Prelude.{ℕ, List, [], ◌∷◌, Bool, ◌==◌, cond, nat_eq, codes, drop, length, slice_get, Option, Some, None}
use Rattle.std.specs.Option.{option_map}
use Rattle.std.specs.List.{slice_split, starts_with}
use Rattle.dg_base.specs.declared.step.NodeRef.{NodeRef}
use Rattle.dg_base.specs.declared.step.NodeRef.TheVariants as ref
use Rattle.dg_load.specs.declared.state.Object.{Object}
use Rattle.dg_load.specs.declared.state.Instance.{Instance}
use Rattle.dg_load.specs.declared.state.Sub.{Sub}
use Rattle.dg_load.specs.declared.state.Filled.{Filled}
use Rattle.dg_load.specs.Named.{find}
use Rattle.dg_load.specs.Draft.{new}
use Rattle.dg_load.specs.Objects.{part_node}

-- the override node of a node in the override of a root
abbrev pub under : ℕ → Option NodeRef → Option NodeRef
under root None = None
under root (Some original) = Some (ref.In (new root) original)

-- a component, or its override node where its object is overridden
abbrev pub in_override : Option ℕ → Option ℕ → Option NodeRef
in_override None part = option_map new part
in_override (Some root) part = under root (option_map new part)

abbrev pub part_in : Option Object → List ℕ → Option ℕ
part_in None id = None
part_in (Some o) id = part_node o id

-- the game object at a place
abbrev pub object_at : List Object → Option ℕ → Option Object
object_at objects None = None
object_at objects (Some place) = slice_get objects place

abbrev pub instance_part : List Object → Option Instance → List ℕ → Option NodeRef
instance_part objects None id = None
instance_part objects (Some i) id = in_override i.over (part_in (object_at objects i.object) id)

abbrev pub instance_in : List Object → Option Filled → List ℕ → List ℕ → Option NodeRef
instance_in objects None last id = None
instance_in objects (Some here) last id = instance_part objects (find here.instances last) id

-- the last instance of a collection that has an id, where it has an override
abbrev pub overridden_sub : Option (Option Sub) → Option Sub
overridden_sub None = None
overridden_sub (Some sub) = sub

abbrev pub sub_in : Option Filled → List ℕ → Option Sub
sub_in None first = None
sub_in (Some here) first = overridden_sub (find here.subs first)

-- what is found in it, through its override
abbrev pub through : (ℕ → Option NodeRef) → Option Sub → Option NodeRef
through inside None = None
through inside (Some s) = under s.over (inside s.filled)

-- in a filled collection: the last id is that of an instance, and one before it is of a collection, which is gone on from
abbrev pub target_in : List Object → Option Filled → List ℕ → Bool → (ℕ → Option NodeRef) → List ℕ → Option NodeRef
target_in objects here first is_last inside id =
    cond is_last (instance_in objects here first id) (through inside (sub_in here first))

-- in the filled collection at a place
abbrev pub target : List Object → List Filled → ℕ → List (List ℕ) → List ℕ → Option NodeRef
target objects filled place [] id = None
target objects filled place (first ∷ more) id =
    target_in objects (slice_get filled place) first (length more == 0) (λ inner. target objects filled inner more id) id

-- ---- the ids of a path

abbrev pub is_slash : ℕ → Bool
is_slash b = b == 47

-- one slash at the begin is passed over
abbrev pub behind_slash : List ℕ → List ℕ
behind_slash path = cond (starts_with nat_eq path (codes "/")) (drop 1 path) path

abbrev pub ids_in : List ℕ → List (List ℕ)
ids_in path = slice_split is_slash (behind_slash path)
