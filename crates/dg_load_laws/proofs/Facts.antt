-- What the lists of a load say of the graph that its steps lead to: it outlives every step.
use Rattle.std.proofs.Common.{◌≡◌, ℕ, ◌+◌, ◌<◌, ◌==◌, Bool, true, false, cond, List, [], ◌∷◌, ◌++◌, Option, Some, None, length, Contains, slice_get, refl, sym, ap, ◌∙◌, subst, inl, inr, arith, length-append}
use Rattle.std.proofs.lemmas.Option.{slice_get_within}
use Rattle.dg_base.specs.declared.ids.NodeId.{NodeId}
use Rattle.dg_base.specs.declared.ids.Kind.{Kind}
use Rattle.dg_base.specs.declared.step.NodeRef.{NodeRef}
use Rattle.dg_base.specs.declared.step.NodeRef.{In}
use Rattle.dg_base.specs.Tables.{Tables}
use Rattle.dg_base.specs.Progress.{Progress, IsReady}
use Rattle.dg_labels.specs.declared.kinds.TheConstants as kinds
use Rattle.dg_load.specs.declared.state.Load.{Load}
use Rattle.dg_load.specs.declared.state.Object.{Object}
use Rattle.dg_load.specs.declared.state.Part.{Part}
use Rattle.dg_load.specs.declared.state.Instance.{Instance}
use Rattle.dg_load.specs.declared.state.Sub.{Sub}
use Rattle.dg_load.specs.declared.state.Child.{Child}
use Rattle.dg_load.specs.declared.state.Filled.{Filled}
use Rattle.dg_load.specs.Named.{find}
use Rattle.dg_load.specs.Draft.{new}
use Rattle.dg_load.specs.Objects.{ref_node, part_node}
use Rattle.dg_load.specs.Targets.{under, instance_part, overridden_sub, through, target_in, target}
use Rattle.dg_load_laws.proofs.Lists.{Each, EachAt, slice_get-last, slice_get-push, push-each}
use Rattle.dg_load_laws.proofs.Targets.{InRange, SubInRange, InstancesInRange, SubsInRange, IsClosed, instance_part-more, target-objects, target-filled}
use Rattle.dg_load_laws.proofs.Growth.{Leaves}
use Rattle.dg_load_laws.proofs.Naming.{Plainly, Reaches, Plainly-later, Reaches-later}

-- a reference to a component by a path, below a node that was made
abbrev pub ReachesPart : Tables → Progress → ℕ → NodeRef → Type 0
ReachesPart t p k r = Reaches t kinds.COMPONENT_REF p k r

-- ---- files and game objects

abbrev pub ScriptsFit : List (List ℕ × ℕ) → Progress → Type 0
ScriptsFit scripts p = Each scripts (λ k. Plainly p k kinds.SCRIPT_FILE)

abbrev pub ResourcesFit : List (List ℕ × ℕ) → Progress → Type 0
ResourcesFit resources p = Each resources (λ k. Plainly p k kinds.RESOURCE_FILE)

-- a component by a path stands below its game object
abbrev pub PartFits : Tables → ℕ → Progress → Part → Type 0
PartFits t object p part = part.is_ref ≡ true → ReachesPart t p object (new part.node)

abbrev pub PartsFit : Tables → ℕ → List (List ℕ × Part) → Progress → Type 0
PartsFit t object parts p = Each parts (PartFits t object p)

pub record ObjectFits (t : Tables) (o : Object) (p : Progress) : Type 0 where
  pub is : Plainly p o.node kinds.GAME_OBJECT
  pub parts : PartsFit t o.node o.parts p

pub part_node-reaches : {t : Tables} {o : Object} {p : Progress} → ObjectFits t o p → (id : List ℕ) (k : ℕ) → part_node o id ≡ Some k → ReachesPart t p o.node (new k)
part_node-reaches {t} {o} {p} fits id k e = by_found (find o.parts id) refl e
  where
    by_ref : (b : Bool) (part : Part) → part.is_ref ≡ b → find o.parts id ≡ Some part → cond b (Some part.node) None ≡ Some k → ReachesPart t p o.node (new k)
    by_ref true part is named h =
        let same : part.node ≡ k = cc in
        subst (λ z. ReachesPart t p o.node (new z)) same (fits.parts id part named is)
    by_ref false part is named h = let wrong : None ≡ Some k = h in absurd cc

    by_found : (f : Option Part) → find o.parts id ≡ f → ref_node f ≡ Some k → ReachesPart t p o.node (new k)
    by_found None named h = let wrong : None ≡ Some k = h in absurd cc
    by_found (Some part) named h = by_ref part.is_ref part refl named h

-- ---- filled collections

-- each component that ids name in it stands below its node
abbrev pub TargetsFit : Tables → List Object → List Filled → ℕ → Progress → (NodeRef → NodeRef) → ℕ → Type 0
TargetsFit t objects filled place p seen node = (ids : List (List ℕ)) (id : List ℕ) (r : NodeRef) → target objects filled place ids id ≡ Some r → ReachesPart t p node (seen r)

pub record FilledFits (t : Tables) (objects : List Object) (filled : List Filled) (place : ℕ) (f : Filled) (p : Progress) : Type 0 where
  pub is : Plainly p f.node kinds.COLLECTION
  pub targets : TargetsFit t objects filled place p (λ r. r) f.node

-- ---- all that stays

pub record Ground (t : Tables) (scripts : List (List ℕ × ℕ)) (objects : List Object) (collections : List ℕ) (filled : List Filled) (p : Progress) : Type 0 where
  pub are_scripts : ScriptsFit scripts p
  pub are_objects : EachAt objects (λ o. ObjectFits t o p)
  pub are_collections : EachAt collections (λ k. Plainly p k kinds.COLLECTION)
  pub are_filled : (place : ℕ) (f : Filled) → slice_get filled place ≡ Some f → FilledFits t objects filled place f p
  pub closed : IsClosed objects filled

abbrev pub Grounded : Tables → Load → Progress → Type 0
Grounded t l p = Ground t l.scripts l.objects l.collections l.filled p

-- ---- the collection that is being filled

pub record InstanceFits (t : Tables) (objects : List Object) (node : ℕ) (p : Progress) (i : Instance) : Type 0 where
  pub is : Plainly p i.node kinds.GO_INSTANCE
  pub in_range : InRange objects i.object
  pub parts : (id : List ℕ) (r : NodeRef) → instance_part objects (Some i) id ≡ Some r → ReachesPart t p node r

abbrev pub SubFits : Tables → List Object → List Filled → ℕ → Progress → Option Sub → Type 0
SubFits t objects filled node p None = Unit {0}
SubFits t objects filled node p (Some s) = (s.filled < length filled) × TargetsFit t objects filled s.filled p (In (new s.over)) node

pub record Filling (t : Tables) (objects : List Object) (filled : List Filled) (node : ℕ) (instances : List (List ℕ × Instance)) (subs : List (List ℕ × Option Sub)) (children : List Child) (p : Progress) : Type 0 where
  pub is : Plainly p node kinds.COLLECTION
  pub are_instances : Each instances (InstanceFits t objects node p)
  pub are_subs : Each subs (SubFits t objects filled node p)
  pub are_children : (c : Child) → Contains children c → Plainly p c.parent kinds.GO_INSTANCE

-- ---- later

module _ {t : Tables} {k : Kind} {more : List NodeId} {p q : Progress} (a : IsReady t p) (b : IsReady t q) (g : Leaves k more p q) where
  pub ObjectFits-later : (o : Object) → ObjectFits t o p → ObjectFits t o q
  ObjectFits-later o h = record { is = Plainly-later a b g h.is; parts = λ id part named is. Reaches-later a b g (h.parts id part named is) }

  pub Ground-later : {scripts : List (List ℕ × ℕ)} {objects : List Object} {collections : List ℕ} {filled : List Filled} → Ground t scripts objects collections filled p → Ground t scripts objects collections filled q
  Ground-later h = record {
    are_scripts = λ path m named. Plainly-later a b g (h.are_scripts path m named);
    are_objects = λ place o there. ObjectFits-later o (h.are_objects place o there);
    are_collections = λ place m there. Plainly-later a b g (h.are_collections place m there);
    are_filled = λ place f there.
        let fits = h.are_filled place f there in
        record { is = Plainly-later a b g fits.is; targets = λ ids id r e. Reaches-later a b g (fits.targets ids id r e) };
    closed = h.closed;
  }

  SubFits-later : (objects : List Object) (filled : List Filled) (node : ℕ) (s : Option Sub) → SubFits t objects filled node p s → SubFits t objects filled node q s
  SubFits-later objects filled node None h = tt
  SubFits-later objects filled node (Some s) h = (h.0, λ ids id r e. Reaches-later a b g (h.1 ids id r e))

  pub Filling-later : {objects : List Object} {filled : List Filled} {node : ℕ} {instances : List (List ℕ × Instance)} {subs : List (List ℕ × Option Sub)} {children : List Child} →
      Filling t objects filled node instances subs children p → Filling t objects filled node instances subs children q
  Filling-later {objects} {filled} {node} h = record {
    is = Plainly-later a b g h.is;
    are_instances = λ id i named.
        let fits = h.are_instances id i named in
        record { is = Plainly-later a b g fits.is; in_range = fits.in_range; parts = λ part r e. Reaches-later a b g (fits.parts part r e) };
    are_subs = λ id s named. SubFits-later objects filled node s (h.are_subs id s named);
    are_children = λ c there. Plainly-later a b g (h.are_children c there);
  }

-- ---- one more

longer_range : (objects more : List Object) (o : Option ℕ) → InRange objects o → InRange (objects ++ more) o
longer_range objects more None h = tt
longer_range objects more (Some place) h = let sum = length-append objects more in omega (arith, h, sum)

more_subs : (count more : ℕ) (s : Option Sub) → SubInRange count s → SubInRange (count + more) s
more_subs count more None h = tt
more_subs count more (Some s) h = omega (arith, h)

pub Ground-script : {t : Tables} {scripts : List (List ℕ × ℕ)} {objects : List Object} {collections : List ℕ} {filled : List Filled} {p : Progress} (more : List (List ℕ × ℕ)) →
    ScriptsFit more p → Ground t scripts objects collections filled p → Ground t more objects collections filled p
Ground-script more fit h = record { are_scripts = fit; are_objects = h.are_objects; are_collections = h.are_collections; are_filled = h.are_filled; closed = h.closed }

pub Ground-collection : {t : Tables} {scripts : List (List ℕ × ℕ)} {objects : List Object} {collections : List ℕ} {filled : List Filled} {p : Progress} (k : ℕ) → Plainly p k kinds.COLLECTION →
    Ground t scripts objects collections filled p → Ground t scripts objects (collections ++ k ∷ []) filled p
Ground-collection {t} {scripts} {objects} {collections} {filled} {p} k is h = record {
  are_scripts = h.are_scripts;
  are_objects = h.are_objects;
  are_collections = push-each (λ m. Plainly p m kinds.COLLECTION) collections k h.are_collections is;
  are_filled = h.are_filled;
  closed = h.closed;
}

pub Ground-object : {t : Tables} {scripts : List (List ℕ × ℕ)} {objects : List Object} {collections : List ℕ} {filled : List Filled} {p : Progress} (o : Object) → ObjectFits t o p →
    Ground t scripts objects collections filled p → Ground t scripts (objects ++ o ∷ []) collections filled p
Ground-object {t} {scripts} {objects} {collections} {filled} {p} o fits h = record {
  are_scripts = h.are_scripts;
  are_objects = push-each (λ z. ObjectFits t z p) objects o h.are_objects fits;
  are_collections = h.are_collections;
  are_filled = λ place f there.
      let one = h.are_filled place f there in
      record { is = one.is; targets = λ ids id r e. one.targets ids id r (sym (target-objects objects (o ∷ []) filled h.closed place ids id) ∙ e) };
  closed = λ place f there.
      let one = h.closed place f there in
      (λ id i named. longer_range objects (o ∷ []) i.object (one.0 id i named), one.1);
}

pub Filling-object : {t : Tables} {objects : List Object} {filled : List Filled} {node : ℕ} {instances : List (List ℕ × Instance)} {subs : List (List ℕ × Option Sub)} {children : List Child} {p : Progress} (o : Object) →
    IsClosed objects filled → Filling t objects filled node instances subs children p → Filling t (objects ++ o ∷ []) filled node instances subs children p
Filling-object {t} {objects} {filled} {node} {instances} {subs} {children} {p} o closed h = record {
  is = h.is;
  are_instances = λ id i named.
      let one = h.are_instances id i named in
      record {
        is = one.is;
        in_range = longer_range objects (o ∷ []) i.object one.in_range;
        parts = λ part r e. one.parts part r (sym (instance_part-more objects (o ∷ []) i part one.in_range) ∙ e);
      };
  are_subs = λ id s named. by_sub s (h.are_subs id s named);
  are_children = h.are_children;
}
  where
    by_sub : (s : Option Sub) → SubFits t objects filled node p s → SubFits t (objects ++ o ∷ []) filled node p s
    by_sub None fits = tt
    by_sub (Some s) fits = (fits.0, λ ids id r e. fits.1 ids id r (sym (target-objects objects (o ∷ []) filled closed s.filled ids id) ∙ e))

-- ---- a collection that was filled

module _ {t : Tables} {scripts : List (List ℕ × ℕ)} {objects : List Object} {collections : List ℕ} {filled : List Filled} {node : ℕ} {instances : List (List ℕ × Instance)} {subs : List (List ℕ × Option Sub)}
    {children : List Child} {p : Progress} (h : Ground t scripts objects collections filled p) (here : Filling t objects filled node instances subs children p) where
  abbrev last : Filled
  last = record { node = node; instances = instances; subs = subs }

  abbrev all : List Filled
  all = filled ++ last ∷ []

  long : length all ≡ length filled + 1
  long = length-append filled (last ∷ [])

  sub_below : (s : Option Sub) → SubFits t objects filled node p s → SubInRange (length filled) s
  sub_below None fits = tt
  sub_below (Some s) fits = fits.0

  subs_longer : (more : List (List ℕ × Option Sub)) → SubsInRange (length filled) more → SubsInRange (length all) more
  subs_longer more fit id s named = subst (λ n. SubInRange n s) (sym long) (more_subs (length filled) 1 s (fit id s named))

  last_closed : (f : Filled) → last ≡ f → InstancesInRange objects f.instances × SubsInRange (length all) f.subs
  last_closed f is =
      subst (λ (z : Filled). InstancesInRange objects z.instances × SubsInRange (length all) z.subs) is
      (last_instances, subs_longer last.subs last_subs)
    where
      last_instances : InstancesInRange objects last.instances
      last_instances id i named = (here.are_instances id i named).in_range

      last_subs : SubsInRange (length filled) last.subs
      last_subs id s named = sub_below s (here.are_subs id s named)

  all_closed : IsClosed objects all
  all_closed place f e =
      elim (slice_get-push filled last place f e) [
        | inl old ↦ let one = h.closed place f old in (one.0, subs_longer f.subs one.1)
        | inr new ↦ last_closed f new.1
      ]

  none_reached : {P : Type 0} (r : NodeRef) → None ≡ Some r → P
  none_reached r e = let wrong : None ≡ Some r = e in absurd cc

  -- what an instance of a collection leads to
  through_sub : (rest : List (List ℕ)) (id : List ℕ) (s : Sub) (r : NodeRef) → SubFits t objects filled node p (Some s) → under s.over (target objects all s.filled rest id) ≡ Some r → ReachesPart t p node r
  through_sub rest id s r fits e = by_target (target objects filled s.filled rest id) refl (ap (under s.over) (sym (target-filled objects filled (last ∷ []) h.closed s.filled fits.0 rest id)) ∙ e)
    where
      by_target : (o : Option NodeRef) → target objects filled s.filled rest id ≡ o → under s.over o ≡ Some r → ReachesPart t p node r
      by_target None found d = none_reached r d
      by_target (Some inner) found d =
          let same : In (new s.over) inner ≡ r = cc in
          subst (λ (z : NodeRef). ReachesPart t p node z) same (fits.1 rest id inner found)

  last_targets : TargetsFit t objects all (length filled) p (λ r. r) node
  last_targets [] id r e = none_reached r e
  last_targets (first ∷ rest) id r e = by_test (length rest == 0) (ap (λ (o : Option Filled). target_in objects o first (length rest == 0) inside id) (sym at_last) ∙ e)
    where
      inside : ℕ → Option NodeRef
      inside inner = target objects all inner rest id

      at_last : slice_get all (length filled) ≡ Some (record { node = node; instances = instances; subs = subs })
      at_last = slice_get-last filled (record { node = node; instances = instances; subs = subs })

      by_instance : (o : Option Instance) → find instances first ≡ o → instance_part objects o id ≡ Some r → ReachesPart t p node r
      by_instance None named d = none_reached r d
      by_instance (Some i) named d = (here.are_instances first i named).parts id r d

      by_sub : (o : Option (Option Sub)) → find subs first ≡ o → through inside (overridden_sub o) ≡ Some r → ReachesPart t p node r
      by_sub None named d = none_reached r d
      by_sub (Some None) named d = none_reached r d
      by_sub (Some (Some s)) named d = through_sub rest id s r (here.are_subs first (Some s) named) d

      by_test : (b : Bool) → cond b (instance_part objects (find instances first) id) (through inside (overridden_sub (find subs first))) ≡ Some r → ReachesPart t p node r
      by_test true d = by_instance (find instances first) refl d
      by_test false d = by_sub (find subs first) refl d

  last_fits : (place : ℕ) (f : Filled) → place ≡ length filled → last ≡ f → FilledFits t objects all place f p
  last_fits place f at is =
      subst (λ n. FilledFits t objects all n f p) (sym at) (subst (λ (z : Filled). FilledFits t objects all (length filled) z p) is fits)
    where
      fits : FilledFits t objects all (length filled) last p
      fits = record { is = here.is; targets = last_targets }

  pub Ground-filled : Ground t scripts objects collections (filled ++ record { node = node; instances = instances; subs = subs } ∷ []) p
  Ground-filled = record {
    are_scripts = h.are_scripts;
    are_objects = h.are_objects;
    are_collections = h.are_collections;
    are_filled = λ place f e.
        elim (slice_get-push filled last place f e) [
          | inl old ↦
              let one = h.are_filled place f old in
              record {
                is = one.is;
                targets = λ ids id r found. one.targets ids id r (sym (target-filled objects filled (last ∷ []) h.closed place (slice_get_within filled place f old) ids id) ∙ found);
              }
          | inr new ↦ last_fits place f new.0 new.1
        ];
    closed = all_closed;
  }
