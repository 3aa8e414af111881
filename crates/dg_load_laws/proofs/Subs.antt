-- Instances of collections in a collection.
use Rattle.std.proofs.Common.{◌≡◌, ℕ, Bool, true, false, List, [], ◌∷◌, Option, Some, None, slice_get, is_some, refl, ap, subst, inr, arith}
use Rattle.std.proofs.lemmas.Option.{slice_get_within}
use Rattle.dg_base.specs.declared.step.NodeRef.{NodeRef}
use Rattle.dg_base.specs.declared.step.NodeRef.{In}
use Rattle.dg_base.specs.Tables.{Tables}
use Rattle.dg_base.specs.Progress.{Progress}
use Rattle.dg_labels.specs.declared.kinds.TheConstants as kinds
use Rattle.dg_labels.specs.declared.labels.TheConstants as labels
use Rattle.dg_desc.specs.declared.descs.CompPropsDesc.{CompPropsDesc}
use Rattle.dg_desc.specs.declared.descs.InstPropsDesc.{InstPropsDesc}
use Rattle.dg_desc.specs.declared.descs.CollInstDesc.{CollInstDesc}
use Rattle.dg_load.specs.declared.draft.Draft.{Draft}
use Rattle.dg_load.specs.declared.collections.Site.{Site}
use Rattle.dg_load.specs.declared.state.Load.{Load}
use Rattle.dg_load.specs.declared.state.Object.{Object}
use Rattle.dg_load.specs.declared.state.Sub.{Sub}
use Rattle.dg_load.specs.declared.state.Filled.{Filled}
use Rattle.dg_load.specs.declared.subs.Found.{Found}
use Rattle.dg_load.specs.Named.{find, put}
use Rattle.dg_load.specs.Draft.{new, overridden, bound, connected}
use Rattle.dg_load.specs.State.{on_draft}
use Rattle.dg_load.specs.Properties.{set_at}
use Rattle.dg_load.specs.Targets.{under, target, ids_in}
use Rattle.dg_load.specs.Instances.{source_name, instance_made}
use Rattle.dg_load.specs.Subs.{comps_set, insts_set, place_with, filled_at, sub_made, sub_absent, sub_steps, found_in, sub_at, place_of_sub, sub_kept, collection_instance, collection_instances}
use Rattle.dg_load_laws.proofs.Lists.{put-each}
use Rattle.dg_load_laws.proofs.Growth.{Leaves-from}
use Rattle.dg_load_laws.proofs.Naming.{Plainly, OwnsMade, Plainly-names, Reaches-through, Plainly-later, Reaches-later}
use Rattle.dg_load_laws.proofs.Drafts.{Holds, Stands, Persists, stands, forget, Fresh, Fresh-stands, Also, Also-persists, Overridden, mark-holds, connect-holds, override-holds, bound-holds}
use Rattle.dg_load_laws.proofs.Properties.{set_properties-holds}
use Rattle.dg_load_laws.proofs.Schema.{Cascades, FitsLoads, sub_is_no_number}
use Rattle.dg_load_laws.proofs.Facts.{ReachesPart, TargetsFit, SubFits}
use Rattle.dg_load_laws.proofs.Instances.{Busy, Busy-persists, Overridden-later, instance_made-holds, joined-holds}

-- what ids name in a filled collection
abbrev IsTarget : List Object → List Filled → ℕ → NodeRef → Type 0
IsTarget objects filled place r = (ids : List (List ℕ)) × (id : List ℕ) × (target objects filled place ids id ≡ Some r)

-- ---- the override of a filled collection

module _ {t : Tables} (fits : FitsLoads t) {P : Progress → Type 0} (keep : Persists t kinds.NUM P) (objects : List Object) (filled : List Filled) (place root : ℕ) (is_root : (p : Progress) → P p → Plainly p root kinds.COLLECTION)
    (reached : (p : Progress) → P p → TargetsFit t objects filled place p (λ r. r) root) where
  module _ {X : Progress → Type 0} (stay : Stands t X) (over : ℕ) (inside : (p : Progress) → X p → (r : NodeRef) → IsTarget objects filled place r → ReachesPart t p over (In (new over) r)) where
    comp_set-holds : (ids : List (List ℕ)) (c : CompPropsDesc) (d : Draft) → Holds t X d → Holds t X (set_at (under over (target objects filled place ids c.id)) c.properties d)
    comp_set-holds ids c d h = by_target (target objects filled place ids c.id) refl
      where
        by_target : (o : Option NodeRef) → target objects filled place ids c.id ≡ o → Holds t X (set_at (under over o) c.properties d)
        by_target None found = h
        by_target (Some r) found =
            set_properties-holds fits.laws {P = X} stay (In (new over) r) kinds.COMPONENT_REF (λ p ready facts. (inside p facts r (ids, c.id, found)).to) fits.ref_opens c.properties d h

    comps_set-hold : (ids : List (List ℕ)) (cs : List CompPropsDesc) (d : Draft) → Holds t X d → Holds t X (comps_set objects filled place over ids cs d)
    comps_set-hold ids [] d h = h
    comps_set-hold ids (c ∷ cs) d h = comps_set-hold ids cs (set_at (under over (target objects filled place ids c.id)) c.properties d) (comp_set-holds ids c d h)

    insts_set-hold : (is_ : List InstPropsDesc) (d : Draft) → Holds t X d → Holds t X (insts_set objects filled place over is_ d)
    insts_set-hold [] d h = h
    insts_set-hold (i ∷ is_) d h = insts_set-hold is_ (comps_set objects filled place over (ids_in i.id) i.properties d) (comps_set-hold (ids_in i.id) i.properties d h)

  sub_made-holds : (site : Site) (k : ℕ) (i : CollInstDesc) (d : Draft) → Holds t (Fresh P k kinds.COLL_INSTANCE) d →
      Holds t (λ p. Also P k kinds.COLL_INSTANCE p × TargetsFit t objects filled place p (In (new d.makes)) k) (sub_made site objects filled place root k i d)
  sub_made-holds site k i d h =
      forget (λ q. Y q × (Cascades t kinds.COLL_INSTANCE labels.SOURCE → OwnsMade t q k over)) (λ p. Also P k kinds.COLL_INSTANCE p × TargetsFit t objects filled place p (In (new over)) k)
      (λ p ready facts. (facts.0.0, λ ids id r e. Reaches-through (facts.1 fits.flat_cascade) (facts.0.1.reaches r (ids, id, e)))) (sub_made site objects filled place root k i d)
      (connect-holds kinds.NUM X Y
      (λ p q a b g facts. ((keep p q [] a b g facts.0.0, Plainly-later a b g facts.0.1.is), Overridden-later a b g facts.1)) three over labels.FLAT k kinds.COLL_INSTANCE labels.SOURCE
      (λ p ready facts. record { from = kinds.COLLECTION; names = facts.1.root; fits = fits.flat_source }) (λ p facts. facts.0.1.is) sub_is_no_number (λ p facts. inr facts.0.1.no_arcs)
      (insts_set-hold {X = X} stay over (λ p facts. facts.1.reaches) i.instance_properties two (
      bound-holds {P = X} (source_name site i.id) over one (omega arith) (
      override-holds {P = F} fresh (IsTarget objects filled place) d root kinds.COLLECTION kinds.COMPONENT_REF (λ p facts. is_root p facts.0) (λ p facts r c. reached p facts.0 c.0 c.1 r c.2) h))))
    where
      over : ℕ
      over = d.makes

      F : Progress → Type 0
      F = Fresh P k kinds.COLL_INSTANCE

      fresh : Stands t F
      fresh = Fresh-stands P (stands P keep) k kinds.COLL_INSTANCE

      X : Progress → Type 0
      X q = F q × Overridden t (IsTarget objects filled place) over kinds.COLLECTION kinds.COMPONENT_REF q

      Y : Progress → Type 0
      Y q = Also P k kinds.COLL_INSTANCE q × Overridden t (IsTarget objects filled place) over kinds.COLLECTION kinds.COMPONENT_REF q

      stay : Stands t X
      stay p q more a b g facts = (fresh p q more a b g facts.0, Overridden-later a b (Leaves-from kinds.NUM g) facts.1)

      one : Draft
      one = overridden root d

      two : Draft
      two = bound (source_name site i.id) over one

      three : Draft
      three = insts_set objects filled place over i.instance_properties two

-- ---- all of it

-- what was found is filled
found-is : (filled : List Filled) (o : Option ℕ) (found : Found) → filled_at filled o ≡ Some found → (f : Filled) × (slice_get filled found.place ≡ Some f) × (f.node ≡ found.node)
found-is filled None found e = let wrong : None ≡ Some found = e in absurd cc
found-is filled (Some place) found e = by_filled (slice_get filled place) refl e
  where
    by_filled : (o : Option Filled) → slice_get filled place ≡ o → place_with place o ≡ Some found → (f : Filled) × (slice_get filled found.place ≡ Some f) × (f.node ≡ found.node)
    by_filled None at h = let wrong : None ≡ Some found = h in absurd cc
    by_filled (Some f) at h =
        let one : Found = record { node = f.node; place = place } in
        let same : one ≡ found = cc in
        (f, subst (λ (z : Found). slice_get filled z.place ≡ Some f) same at, ap (λ (z : Found). z.node) same)

module _ {t : Tables} (fits : FitsLoads t) where
  collection_instance-holds : (site : Site) (l : Load) (i : CollInstDesc) → Holds t (Busy t site.node l) l.draft → Holds t (Busy t site.node (collection_instance site l i)) (collection_instance site l i).draft
  collection_instance-holds site l i h = by_found (found_in i l) refl
    where
      k : ℕ
      k = l.draft.makes

      P : Progress → Type 0
      P = Busy t site.node l

      keep : Persists t kinds.NUM P
      keep = Busy-persists kinds.NUM site.node l

      l1 : Load
      l1 = on_draft (instance_made kinds.COLL_INSTANCE site i.id (place_of_sub i)) l

      placed : Holds t (Fresh P k kinds.COLL_INSTANCE) l1.draft
      placed = instance_made-holds fits {P = P} (stands P keep) kinds.COLL_INSTANCE fits.coll_id fits.coll_position fits.coll_rotation fits.coll_scale site i.id (place_of_sub i) l.draft h

      behind : Option Found → Load
      behind o = sub_kept i.id (sub_at l1.draft.makes o) (on_draft (connected k labels.INSTANCE site.node labels.SUBS) (on_draft (sub_steps site k i l1 o) l1))

      kept : (o : Option Sub) → (d : Draft) (X : Progress → Type 0) → Persists t kinds.NUM X → ((p : Progress) → X p → P p) → ((p : Progress) → X p → Plainly p k kinds.COLL_INSTANCE) →
          ((p : Progress) → X p → OwnsMade t p site.node k → SubFits t l.objects l.filled site.node p o) → Holds t X d →
          Holds t (Busy t site.node (record l { draft = connected k labels.INSTANCE site.node labels.SUBS d; subs = put i.id o l.subs })) (connected k labels.INSTANCE site.node labels.SUBS d)
      kept o d X stay busy is sub before =
          forget (λ p. X p × OwnsMade t p site.node k) (Busy t site.node (record l { draft = connected k labels.INSTANCE site.node labels.SUBS d; subs = put i.id o l.subs }))
          (λ p ready facts.
          let b = busy p facts.0 in (
            b.0,
            b.1,
            b.2,
            record {
              is = b.3.is;
              are_instances = b.3.are_instances;
              are_subs = put-each (SubFits t l.objects l.filled site.node p) i.id o l.subs b.3.are_subs (sub p facts.0 facts.1);
              are_children = b.3.are_children;
            },
          )) (connected k labels.INSTANCE site.node labels.SUBS d) (
          joined-holds fits {P = X} stay kinds.COLL_INSTANCE labels.SUBS fits.coll_instance fits.subs_array fits.subs_cascade k site.node is (λ p facts. (busy p facts).3.is) d before)

      absent : (b : Bool) → Holds t (Also P k kinds.COLL_INSTANCE) (sub_absent site b k i l1.draft)
      absent true =
          let A = Also P k kinds.COLL_INSTANCE in
          let marks = mark-holds {P = A} (stands A (Also-persists P k kinds.COLL_INSTANCE kinds.NUM keep)) l1.draft k kinds.COLL_INSTANCE (λ p ready facts. Plainly-names ready facts.1)
          (forget (Fresh P k kinds.COLL_INSTANCE) A (λ p ready facts. (facts.0, facts.1.is)) l1.draft placed)
          in
          record { leads = marks.leads; counted = marks.counted; made_names = marks.made_names }
      absent false =
          let plain = forget (Fresh P k kinds.COLL_INSTANCE) (Also P k kinds.COLL_INSTANCE) (λ p ready facts. (facts.0, facts.1.is)) l1.draft placed in
          record { leads = plain.leads; counted = plain.counted; made_names = plain.made_names }

      by_found : (o : Option Found) → found_in i l ≡ o → Holds t (Busy t site.node (behind o)) (behind o).draft
      by_found None named =
          kept None (sub_steps site k i l1 None l1.draft) (Also P k kinds.COLL_INSTANCE) (Also-persists P k kinds.COLL_INSTANCE kinds.NUM keep) (λ p facts. facts.0) (λ p facts. facts.1) (λ p facts owns. tt)
          (absent (is_some (find l1.collection_files i.collection)))
      by_found (Some found) named =
          let f = found-is l.filled (find l.filled_files i.collection) found named in
          let over = l1.draft.makes in
          let X : Progress → Type 0 = λ p. Also P k kinds.COLL_INSTANCE p × TargetsFit t l.objects l.filled found.place p (In (new over)) k in
          let stay : Persists t kinds.NUM X =
          λ p q more a b g facts. (Also-persists P k kinds.COLL_INSTANCE kinds.NUM keep p q more a b g facts.0, λ ids id r e. Reaches-later a b g (facts.1 ids id r e))
          in
          kept (Some (record { over = over; filled = found.place })) (sub_steps site k i l1 (Some found) l1.draft) X stay (λ p facts. facts.0.0) (λ p facts. facts.0.1)
          (λ p facts owns. (slice_get_within l.filled found.place f.0 f.1, λ ids id r e. Reaches-through owns (facts.1 ids id r e))) (
          sub_made-holds fits {P = P} keep l.objects l.filled found.place found.node
          (λ p facts. subst (λ n. Plainly p n kinds.COLLECTION) f.2 (facts.0.are_filled found.place f.0 f.1).is)
          (λ p facts. subst (λ n. TargetsFit t l.objects l.filled found.place p (λ r. r) n) f.2 (facts.0.are_filled found.place f.0 f.1).targets) site k i l1.draft placed)

  pub collection_instances-hold : (site : Site) (descs : List CollInstDesc) (l : Load) → Holds t (Busy t site.node l) l.draft → Holds t (Busy t site.node (collection_instances site descs l)) (collection_instances site descs l).draft
  collection_instances-hold site [] l h = h
  collection_instances-hold site (i ∷ descs) l h = collection_instances-hold site descs (collection_instance site l i) (collection_instance-holds site l i h)
