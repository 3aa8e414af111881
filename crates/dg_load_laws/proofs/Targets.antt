-- What ids name stays the same where game objects and filled collections are added, since each that is there names only
-- others that are there.
use Rattle.std.proofs.Common.{◌≡◌, ℕ, ◌<◌, ◌==◌, Bool, true, false, cond, List, [], ◌∷◌, ◌++◌, Option, Some, None, length, slice_get, refl, ap, ◌∙◌}
use Rattle.dg_base.specs.declared.step.NodeRef.{NodeRef}
use Rattle.dg_load.specs.declared.state.Object.{Object}
use Rattle.dg_load.specs.declared.state.Instance.{Instance}
use Rattle.dg_load.specs.declared.state.Sub.{Sub}
use Rattle.dg_load.specs.declared.state.Filled.{Filled}
use Rattle.dg_load.specs.Named.{find}
use Rattle.dg_load.specs.Targets.{under, in_override, part_in, object_at, instance_part, overridden_sub, through, target_in, target}
use Rattle.dg_load_laws.proofs.Lists.{Each, slice_get-more}

-- the game object of an instance is there
abbrev pub InRange : List Object → Option ℕ → Type 0
InRange objects None = Unit {0}
InRange objects (Some place) = place < length objects

-- so many collections are filled, and the one that an instance of a collection has is one of them
abbrev pub SubInRange : ℕ → Option Sub → Type 0
SubInRange count None = Unit {0}
SubInRange count (Some s) = s.filled < count

abbrev pub InstancesInRange : List Object → List (List ℕ × Instance) → Type 0
InstancesInRange objects instances = Each instances (λ i. InRange objects i.object)

abbrev pub SubsInRange : ℕ → List (List ℕ × Option Sub) → Type 0
SubsInRange count subs = Each subs (SubInRange count)

abbrev pub IsClosed : List Object → List Filled → Type 0
IsClosed objects filled = (place : ℕ) (f : Filled) → slice_get filled place ≡ Some f → InstancesInRange objects f.instances × SubsInRange (length filled) f.subs

-- ---- game objects more

pub instance_part-more : (objects more : List Object) (i : Instance) (id : List ℕ) → InRange objects i.object → instance_part (objects ++ more) (Some i) id ≡ instance_part objects (Some i) id
instance_part-more objects more i id here = ap (λ (o : Option Object). in_override i.over (part_in o id)) (by_place i.object here)
  where
    by_place : (o : Option ℕ) → InRange objects o → object_at (objects ++ more) o ≡ object_at objects o
    by_place None h = refl
    by_place (Some place) h = slice_get-more objects more place h

through-same : (one other : ℕ → Option NodeRef) (o : Option Sub) → ((s : Sub) → o ≡ Some s → one s.filled ≡ other s.filled) → through one o ≡ through other o
through-same one other None same = refl
through-same one other (Some s) same = ap (under s.over) (same s refl)

pub target-objects : (objects more : List Object) (filled : List Filled) → IsClosed objects filled → (place : ℕ) (ids : List (List ℕ)) (id : List ℕ) →
    target (objects ++ more) filled place ids id ≡ target objects filled place ids id
target-objects objects more filled closed place [] id = refl
target-objects objects more filled closed place (first ∷ rest) id = by_place (slice_get filled place) refl (λ inner. target-objects objects more filled closed inner rest id)
  where
    inside : List Object → ℕ → Option NodeRef
    inside os inner = target os filled inner rest id

    by_instance : (o : Option Instance) → ((i : Instance) → o ≡ Some i → InRange objects i.object) → instance_part (objects ++ more) o id ≡ instance_part objects o id
    by_instance None h = refl
    by_instance (Some i) h = instance_part-more objects more i id (h i refl)

    by_test : (b : Bool) (f : Filled) → slice_get filled place ≡ Some f → ((inner : ℕ) → inside (objects ++ more) inner ≡ inside objects inner) →
        cond b (instance_part (objects ++ more) (find f.instances first) id) (through (inside (objects ++ more)) (overridden_sub (find f.subs first)))
        ≡ cond b (instance_part objects (find f.instances first) id) (through (inside objects) (overridden_sub (find f.subs first)))
    by_test true f e later = by_instance (find f.instances first) (λ i named. (closed place f e).0 first i named)
    by_test false f e later = through-same (inside (objects ++ more)) (inside objects) (overridden_sub (find f.subs first)) (λ s named. later s.filled)

    by_place : (o : Option Filled) → slice_get filled place ≡ o → ((inner : ℕ) → inside (objects ++ more) inner ≡ inside objects inner) →
        target_in (objects ++ more) o first (length rest == 0) (inside (objects ++ more)) id ≡ target_in objects o first (length rest == 0) (inside objects) id
    by_place None e later = refl
    by_place (Some f) e later = by_test (length rest == 0) f e later

-- ---- filled collections more

sub-named : (subs : List (List ℕ × Option Sub)) (first : List ℕ) (s : Sub) → overridden_sub (find subs first) ≡ Some s → find subs first ≡ Some (Some s)
sub-named subs first s e = by_found (find subs first) e
  where
    by_found : (o : Option (Option Sub)) → overridden_sub o ≡ Some s → o ≡ Some (Some s)
    by_found None h = let wrong : None ≡ Some s = h in absurd cc
    by_found (Some sub) h = ap (λ (z : Option Sub). Some z) h

pub target-filled : (objects : List Object) (filled more : List Filled) → IsClosed objects filled → (place : ℕ) → place < length filled → (ids : List (List ℕ)) (id : List ℕ) →
    target objects (filled ++ more) place ids id ≡ target objects filled place ids id
target-filled objects filled more closed place lt [] id = refl
target-filled objects filled more closed place lt (first ∷ rest) id =
    ap (λ (o : Option Filled). target_in objects o first (length rest == 0) (inside (filled ++ more)) id) (slice_get-more filled more place lt)
    ∙ by_place (slice_get filled place) refl (λ inner below. target-filled objects filled more closed inner below rest id)
  where
    inside : List Filled → ℕ → Option NodeRef
    inside fs inner = target objects fs inner rest id

    by_test : (b : Bool) (f : Filled) → slice_get filled place ≡ Some f → ((inner : ℕ) → inner < length filled → inside (filled ++ more) inner ≡ inside filled inner) →
        cond b (instance_part objects (find f.instances first) id) (through (inside (filled ++ more)) (overridden_sub (find f.subs first)))
        ≡ cond b (instance_part objects (find f.instances first) id) (through (inside filled) (overridden_sub (find f.subs first)))
    by_test true f e later = refl
    by_test false f e later =
        through-same (inside (filled ++ more)) (inside filled) (overridden_sub (find f.subs first)) (λ s named.
        later s.filled ((closed place f e).1 first (Some s) (sub-named f.subs first s named)))

    by_place : (o : Option Filled) → slice_get filled place ≡ o → ((inner : ℕ) → inner < length filled → inside (filled ++ more) inner ≡ inside filled inner) →
        target_in objects o first (length rest == 0) (inside (filled ++ more)) id ≡ target_in objects o first (length rest == 0) (inside filled) id
    by_place None e later = refl
    by_place (Some f) e later = by_test (length rest == 0) f e later
