-- Instances of game objects in a collection.
use Rattle.std.proofs.Common.{◌≡◌, ℕ, List, [], ◌∷◌, Option, Some, None, slice_get, refl, sym, ap, ◌∙◌, subst, inl, inr, arith}
use Rattle.std.proofs.lemmas.List.Elements.{Contains-push_cases}
use Rattle.std.proofs.lemmas.Option.{slice_get_within}
use Rattle.dg_base.specs.declared.ids.NodeId.{NodeId}
use Rattle.dg_base.specs.declared.ids.Label.{Label}
use Rattle.dg_base.specs.declared.ids.Kind.{Kind}
use Rattle.dg_base.specs.declared.datum.Datum.TheVariants as datum
use Rattle.dg_base.specs.declared.step.NodeRef.{NodeRef}
use Rattle.dg_base.specs.declared.step.NodeRef.{In}
use Rattle.dg_base.specs.Tables.{Tables}
use Rattle.dg_base.specs.Progress.{Progress, IsReady}
use Rattle.dg_labels.specs.declared.kinds.TheConstants as kinds
use Rattle.dg_labels.specs.declared.labels.TheConstants as labels
use Rattle.dg_desc.specs.declared.descs.ChildDesc.{ChildDesc}
use Rattle.dg_desc.specs.declared.descs.CompPropsDesc.{CompPropsDesc}
use Rattle.dg_desc.specs.declared.descs.InstDesc.{InstDesc}
use Rattle.dg_load.specs.declared.draft.Draft.{Draft}
use Rattle.dg_load.specs.declared.draft.Place.{Place}
use Rattle.dg_load.specs.declared.collections.Site.{Site}
use Rattle.dg_load.specs.declared.state.Load.{Load}
use Rattle.dg_load.specs.declared.state.Object.{Object}
use Rattle.dg_load.specs.declared.state.Instance.{Instance}
use Rattle.dg_load.specs.declared.state.Child.{Child}
use Rattle.dg_load.specs.Named.{find, put}
use Rattle.dg_load.specs.Draft.{new, made, overridden, bound, set_text, set_vector, set_rotation, connected}
use Rattle.dg_load.specs.State.{on_draft}
use Rattle.dg_load.specs.Properties.{set_at}
use Rattle.dg_load.specs.Objects.{part_node}
use Rattle.dg_load.specs.Targets.{in_override, object_at, part_in}
use Rattle.dg_load.specs.Instances.{site_name, source_name, instance_made, child_kept, children_kept, instance_kept, instance_connected, parts_set, prototype_made, prototype_of, prototype_steps, instance_of, place_of_inst, instance_placed, instance, instances}
use Rattle.dg_load_laws.proofs.Lists.{put-each}
use Rattle.dg_load_laws.proofs.Targets.{InRange}
use Rattle.dg_load_laws.proofs.Growth.{Leaves, Leaves-from}
use Rattle.dg_load_laws.proofs.Naming.{Plainly, OwnsMade, Plainly-names, Reaches-through, Names-later, Plainly-later, Reaches-later}
use Rattle.dg_load_laws.proofs.Drafts.{Holds, Stands, Persists, stands, forget, Fresh, Fresh-stands, Also, Also-persists, Overridden, set-holds, connect-holds, made-holds, override-holds, bound-holds}
use Rattle.dg_load_laws.proofs.Properties.{set_properties-holds, set_vector-holds, set_rotation-holds, fresh_names}
use Rattle.dg_load_laws.proofs.Schema.{HasText, HasVector, HasRotation, MayConnect, IsArray, Cascades, FitsLoads, instance_is_no_number, collection_is_no_number}
use Rattle.dg_load_laws.proofs.Facts.{ReachesPart, ResourcesFit, ObjectFits, part_node-reaches, Grounded, Ground-later, InstanceFits, Filling, Filling-later}

-- a collection is being filled
abbrev pub Busy : Tables → ℕ → Load → Progress → Type 0
Busy t node l p = Grounded t l p × ResourcesFit l.resources p × (l.parts ≡ []) × Filling t l.objects l.filled node l.instances l.subs l.children p

pub Busy-persists : {t : Tables} (k : Kind) (node : ℕ) (l : Load) → Persists t k (Busy t node l)
Busy-persists k node l p q more a b g h = (Ground-later a b g h.0, λ path m named. Plainly-later a b g (h.1 path m named), h.2, Filling-later a b g h.3)

-- ---- the instance itself

module _ {t : Tables} (fits : FitsLoads t) {P : Progress → Type 0} where
  pub instance_made-holds : Stands t P → (k : Kind) → HasText t k labels.ID → HasVector t k labels.POSITION → HasRotation t k → HasVector t k labels.SCALE3 → (site : Site) (id : List ℕ) (place : Place) (d : Draft) →
      Holds t P d → Holds t (Fresh P d.makes k) (instance_made k site id place d)
  instance_made-holds keep k text vectors rotations scales site id place d h =
      let n = d.makes in
      let F = Fresh P n k in
      let stay = Fresh-stands P keep n k in
      let one = bound (site_name site id) n (made k d) in
      let two = set_text n labels.ID id one in
      let three = set_vector n labels.POSITION place.position two in
      let four = set_rotation n place.rotation three in
      set_vector-holds fits.laws {P = F} stay n k (fresh_names P) labels.SCALE3 scales place.scale3 four (
      set_rotation-holds fits.laws {P = F} stay n k (fresh_names P) rotations place.rotation three (
      set_vector-holds fits.laws {P = F} stay n k (fresh_names P) labels.POSITION vectors place.position two (
      set-holds {P = F} stay one (new n) k labels.ID (datum.Text id) (fresh_names P) (text id) (
      bound-holds {P = F} (site_name site id) n (made k d) (omega arith) (
      made-holds {P = P} keep d k h)))))

  -- it is connected to its collection
  pub joined-holds : Persists t kinds.NUM P → (k : Kind) (input : Label) → MayConnect t k labels.INSTANCE kinds.COLLECTION input → IsArray t kinds.COLLECTION input → Cascades t kinds.COLLECTION input →
      (n node : ℕ) → ((p : Progress) → P p → Plainly p n k) → ((p : Progress) → P p → Plainly p node kinds.COLLECTION) → (d : Draft) → Holds t P d →
      Holds t (λ p. P p × OwnsMade t p node n) (connected n labels.INSTANCE node input d)
  joined-holds keep k input agrees array cascade n node here is d h =
      forget (λ q. P q × (Cascades t kinds.COLLECTION input → OwnsMade t q node n)) (λ p. P p × OwnsMade t p node n) (λ p ready facts. (facts.0, facts.1 cascade)) (connected n labels.INSTANCE node input d)
      (connect-holds kinds.NUM P P (λ p q a b g facts. keep p q [] a b g facts) d n labels.INSTANCE node kinds.COLLECTION input
      (λ p ready facts. record { from = k; names = Plainly-names ready (here p facts); fits = agrees }) is collection_is_no_number (λ p facts. inl array) h)

-- ---- the override of its prototype

-- the override node of a component by a path
abbrev IsPart : Object → NodeRef → Type 0
IsPart object r = (id : List ℕ) × (part : ℕ) × (part_node object id ≡ Some part) × (new part ≡ r)

pub Overridden-later : {t : Tables} {C : NodeRef → Type 0} {over : ℕ} {kind inner k : Kind} {more : List NodeId} {p q : Progress} → IsReady t p → IsReady t q → Leaves k more p q →
    Overridden t C over kind inner p → Overridden t C over kind inner q
Overridden-later a b g h = record { root = Names-later a b g h.root; reaches = λ r c. Reaches-later a b g (h.reaches r c) }

-- each component by a path of an object is reached through the override
abbrev pub PartsReached : Tables → Object → ℕ → ℕ → Progress → Type 0
PartsReached t object k over p = (id : List ℕ) (part : ℕ) → part_node object id ≡ Some part → ReachesPart t p k (In (new over) (new part))

module _ {t : Tables} (fits : FitsLoads t) {P : Progress → Type 0} (keep : Persists t kinds.NUM P) (object : Object) (is_object : (p : Progress) → P p → ObjectFits t object p) where
  module _ {X : Progress → Type 0} (stay : Stands t X) (over : ℕ) (reached : (p : Progress) → X p → (r : NodeRef) → IsPart object r → ReachesPart t p over (In (new over) r)) where
    part_set-holds : (c : CompPropsDesc) (d : Draft) → Holds t X d → Holds t X (set_at (in_override (Some over) (part_node object c.id)) c.properties d)
    part_set-holds c d h = by_part (part_node object c.id) refl
      where
        by_part : (o : Option ℕ) → part_node object c.id ≡ o → Holds t X (set_at (in_override (Some over) o) c.properties d)
        by_part None named = h
        by_part (Some part) named =
            set_properties-holds fits.laws {P = X} stay (In (new over) (new part)) kinds.COMPONENT_REF (λ p ready facts. (reached p facts (new part) (c.id, part, named, refl)).to) fits.ref_opens c.properties d h

    parts_set-hold : (cs : List CompPropsDesc) (d : Draft) → Holds t X d → Holds t X (parts_set object over cs d)
    parts_set-hold [] d h = h
    parts_set-hold (c ∷ cs) d h = parts_set-hold cs (set_at (in_override (Some over) (part_node object c.id)) c.properties d) (part_set-holds c d h)

  prototype_made-holds : (site : Site) (k : ℕ) (i : InstDesc) (d : Draft) → Holds t (Fresh P k kinds.GO_INSTANCE) d →
      Holds t (λ p. Also P k kinds.GO_INSTANCE p × PartsReached t object k d.makes p) (prototype_made site object k i d)
  prototype_made-holds site k i d h =
      forget (λ q. Y q × (Cascades t kinds.GO_INSTANCE labels.SOURCE → OwnsMade t q k over)) (λ p. Also P k kinds.GO_INSTANCE p × PartsReached t object k over p)
      (λ p ready facts. (facts.0.0, λ id part named. Reaches-through (facts.1 fits.object_cascade) (facts.0.1.reaches (new part) (id, part, named, refl)))) (prototype_made site object k i d)
      (connect-holds kinds.NUM X Y
      (λ p q a b g facts. ((keep p q [] a b g facts.0.0, Plainly-later a b g facts.0.1.is), Overridden-later a b g facts.1)) three over labels.OBJECT k kinds.GO_INSTANCE labels.SOURCE
      (λ p ready facts. record { from = kinds.GAME_OBJECT; names = facts.1.root; fits = fits.object_source }) (λ p facts. facts.0.1.is) instance_is_no_number (λ p facts. inr facts.0.1.no_arcs)
      (parts_set-hold {X = X} stay over (λ p facts. facts.1.reaches) i.component_properties two (
      bound-holds {P = X} (source_name site i.id) over one (omega arith) (
      override-holds {P = F} fresh (IsPart object) d object.node kinds.GAME_OBJECT kinds.COMPONENT_REF (λ p facts. (is_object p facts.0).is)
      (λ p facts r c. subst (λ z. ReachesPart t p object.node z) c.3 (part_node-reaches (is_object p facts.0) c.0 c.1 c.2)) h))))
    where
      over : ℕ
      over = d.makes

      F : Progress → Type 0
      F = Fresh P k kinds.GO_INSTANCE

      fresh : Stands t F
      fresh = Fresh-stands P (stands P keep) k kinds.GO_INSTANCE

      X : Progress → Type 0
      X q = F q × Overridden t (IsPart object) over kinds.GAME_OBJECT kinds.COMPONENT_REF q

      Y : Progress → Type 0
      Y q = Also P k kinds.GO_INSTANCE q × Overridden t (IsPart object) over kinds.GAME_OBJECT kinds.COMPONENT_REF q

      stay : Stands t X
      stay p q more a b g facts = (fresh p q more a b g facts.0, Overridden-later a b (Leaves-from kinds.NUM g) facts.1)

      one : Draft
      one = overridden object.node d

      two : Draft
      two = bound (source_name site i.id) over one

      three : Draft
      three = parts_set object over i.component_properties two

-- ---- the instance is kept

pub Filling-instance : {t : Tables} {node : ℕ} (l : Load) {p : Progress} (id : List ℕ) (i : Instance) → Filling t l.objects l.filled node l.instances l.subs l.children p → InstanceFits t l.objects node p i →
    Filling t l.objects l.filled node (put id i l.instances) l.subs l.children p
Filling-instance {t} {node} l {p} id i h fit = record {
  is = h.is;
  are_instances = put-each (InstanceFits t l.objects node p) id i l.instances h.are_instances fit;
  are_subs = h.are_subs;
  are_children = h.are_children;
}

module _ {t : Tables} {node : ℕ} where
  child_kept-holds : (parent : ℕ) (l : Load) (c : ChildDesc) → Holds t (λ p. Busy t node l p × Plainly p parent kinds.GO_INSTANCE) l.draft →
      Holds t (λ p. Busy t node (child_kept parent l c) p × Plainly p parent kinds.GO_INSTANCE) l.draft
  child_kept-holds parent l c h =
      forget (λ p. Busy t node l p × Plainly p parent kinds.GO_INSTANCE) (λ p. Busy t node (child_kept parent l c) p × Plainly p parent kinds.GO_INSTANCE)
      (λ p ready facts.
      let f = facts.0.3 in (
        (
          facts.0.0,
          facts.0.1,
          facts.0.2,
          record {
            is = f.is;
            are_instances = f.are_instances;
            are_subs = f.are_subs;
            are_children = λ z there.
                elim (Contains-push_cases l.children (record { parent = parent; line = c.line; id = c.id }) z there) [
                  | inl old ↦ f.are_children z old
                  | inr new ↦ subst (λ (y : Child). Plainly p y.parent kinds.GO_INSTANCE) new facts.1
                ];
          },
        ),
        facts.1,
      )) l.draft h

  children_kept-hold : (parent : ℕ) (cs : List ChildDesc) (l : Load) → Holds t (λ p. Busy t node l p × Plainly p parent kinds.GO_INSTANCE) l.draft → Holds t (Busy t node (children_kept parent cs l)) (children_kept parent cs l).draft
  children_kept-hold parent [] l h = forget (λ p. Busy t node l p × Plainly p parent kinds.GO_INSTANCE) (Busy t node l) (λ p ready facts. facts.0) l.draft h
  children_kept-hold parent (c ∷ cs) l h = children_kept-hold parent cs (child_kept parent l c) (child_kept-holds parent l c h)

  pub instance_kept-holds : (id : List ℕ) (i : Instance) (cs : List ChildDesc) (l : Load) → Holds t (λ p. Busy t node l p × InstanceFits t l.objects node p i) l.draft →
      Holds t (Busy t node (instance_kept id i cs l)) (instance_kept id i cs l).draft
  instance_kept-holds id i cs l h =
      children_kept-hold i.node cs (record l { instances = put id i l.instances }) (
      forget (λ p. Busy t node l p × InstanceFits t l.objects node p i) (λ p. Busy t node (record l { instances = put id i l.instances }) p × Plainly p i.node kinds.GO_INSTANCE)
      (λ p ready facts. ((facts.0.0, facts.0.1, facts.0.2, Filling-instance l id i facts.0.3 facts.1), facts.1.is)) l.draft h)

-- ---- instances by a path

object_at-in : (objects : List Object) (o : Option ℕ) (object : Object) → object_at objects o ≡ Some object → (place : ℕ) × (o ≡ Some place) × (slice_get objects place ≡ Some object)
object_at-in objects None object e = let wrong : None ≡ Some object = e in absurd cc
object_at-in objects (Some place) object e = (place, refl, e)

no_part : {Q : Type 0} (r : NodeRef) → None ≡ Some r → Q
no_part r e = let wrong : None ≡ Some r = e in absurd cc

-- an instance with an override reaches what its game object has
prototyped-fits : {t : Tables} {p : Progress} (objects : List Object) (node k over : ℕ) (o : Option ℕ) (object : Object) → object_at objects o ≡ Some object → Plainly p k kinds.GO_INSTANCE → OwnsMade t p node k →
    PartsReached t object k over p → InstanceFits t objects node p (record { node = k; over = Some over; object = o })
prototyped-fits {t} {p} objects node k over o object at is owns reached = record {
  is = is;
  in_range = (let place = object_at-in objects o object at in subst (InRange objects) (sym place.1) (slice_get_within objects place.0 object place.2));
  parts = λ id r e. by_part id r (part_node object id) refl (sym (ap (λ (z : Option Object). in_override (Some over) (part_in z id)) at) ∙ e);
}
  where
    by_part : (id : List ℕ) (r : NodeRef) (part : Option ℕ) → part_node object id ≡ part → in_override (Some over) part ≡ Some r → ReachesPart t p node r
    by_part id r None named e = no_part r e
    by_part id r (Some part) named e =
        let same : In (new over) (new part) ≡ r = cc in
        subst (λ (z : NodeRef). ReachesPart t p node z) same (Reaches-through owns (reached id part named))

bare-fits : {t : Tables} {p : Progress} (objects : List Object) (node k : ℕ) → Plainly p k kinds.GO_INSTANCE → InstanceFits t objects node p (record { node = k; over = None; object = None })
bare-fits objects node k is = record { is = is; in_range = tt; parts = λ id r e. no_part r e }

module _ {t : Tables} (fits : FitsLoads t) where
  instance-holds : (site : Site) (l : Load) (i : InstDesc) → Holds t (Busy t site.node l) l.draft → Holds t (Busy t site.node (instance site l i)) (instance site l i).draft
  instance-holds site l i h = by_prototype (prototype_of i l) refl
    where
      k : ℕ
      k = l.draft.makes

      P : Progress → Type 0
      P = Busy t site.node l

      keep : Persists t kinds.NUM P
      keep = Busy-persists kinds.NUM site.node l

      l1 : Load
      l1 = on_draft (instance_placed site i) l

      placed : Holds t (Fresh P k kinds.GO_INSTANCE) l1.draft
      placed = instance_made-holds fits {P = P} (stands P keep) kinds.GO_INSTANCE fits.go_id fits.go_position fits.go_rotation fits.go_scale site i.id (place_of_inst i) l.draft h

      behind : Option Object → Load
      behind o =
          instance_kept i.id (instance_of k l1.draft.makes (find l1.object_files i.prototype) o) i.children
          (on_draft (instance_connected site k) (on_draft (prototype_steps site k i o) l1))

      by_prototype : (o : Option Object) → prototype_of i l ≡ o → Holds t (Busy t site.node (behind o)) (behind o).draft
      by_prototype None named =
          let d = prototype_steps site k i None l1.draft in
          let l2 = on_draft (instance_connected site k) (on_draft (prototype_steps site k i None) l1) in
          instance_kept-holds i.id (record { node = k; over = None; object = None }) i.children l2 (
          forget (λ p. Also P k kinds.GO_INSTANCE p × OwnsMade t p site.node k) (λ p. Busy t site.node l2 p × InstanceFits t l2.objects site.node p (record { node = k; over = None; object = None }))
          (λ p ready facts. (facts.0.0, bare-fits l2.objects site.node k facts.0.1)) l2.draft (
          joined-holds fits {P = Also P k kinds.GO_INSTANCE} (Also-persists P k kinds.GO_INSTANCE kinds.NUM keep) kinds.GO_INSTANCE labels.INSTANCES fits.go_instance fits.instances_array fits.instances_cascade k site.node
          (λ p facts. facts.1) (λ p facts. facts.0.3.is) d (
          forget (Fresh P k kinds.GO_INSTANCE) (Also P k kinds.GO_INSTANCE) (λ p ready facts. (facts.0, facts.1.is)) l1.draft placed)))
      by_prototype (Some object) named =
          let over = l1.draft.makes in
          let d = prototype_steps site k i (Some object) l1.draft in
          let l2 = on_draft (instance_connected site k) (on_draft (prototype_steps site k i (Some object)) l1) in
          let o = find l1.object_files i.prototype in
          let there = object_at-in l.objects o object named in
          let X : Progress → Type 0 = λ p. Also P k kinds.GO_INSTANCE p × PartsReached t object k over p in
          let stay : Persists t kinds.NUM X =
          λ p q more a b g facts. (Also-persists P k kinds.GO_INSTANCE kinds.NUM keep p q more a b g facts.0, λ id part e. Reaches-later a b g (facts.1 id part e))
          in
          instance_kept-holds i.id (record { node = k; over = Some over; object = o }) i.children l2 (
          forget (λ p. X p × OwnsMade t p site.node k) (λ p. Busy t site.node l2 p × InstanceFits t l2.objects site.node p (record { node = k; over = Some over; object = o }))
          (λ p ready facts. (facts.0.0.0, prototyped-fits l2.objects site.node k over o object named facts.0.0.1 facts.1 facts.0.1)) l2.draft (
          joined-holds fits {P = X} stay kinds.GO_INSTANCE labels.INSTANCES fits.go_instance fits.instances_array fits.instances_cascade k site.node (λ p facts. facts.0.1) (λ p facts. facts.0.0.3.is) d (
          prototype_made-holds fits {P = P} keep object (λ p facts. facts.0.are_objects there.0 object there.2) site k i l1.draft placed)))

  pub instances-hold : (site : Site) (descs : List InstDesc) (l : Load) → Holds t (Busy t site.node l) l.draft → Holds t (Busy t site.node (instances site descs l)) (instances site descs l).draft
  instances-hold site [] l h = h
  instances-hold site (i ∷ descs) l h = instances-hold site descs (instance site l i) (instance-holds site l i h)
