-- Instances that stand in the text of a collection, each with a game object of its own.
use Rattle.std.proofs.Common.{◌≡◌, ℕ, List, [], ◌∷◌, ◌++◌, Option, Some, None, Result, Ok, Err, length, slice_get, refl, sym, ap, ◌∙◌, subst, inr, arith, length-append}
use Rattle.dg_base.specs.declared.step.NodeRef.{NodeRef}
use Rattle.dg_base.specs.Tables.{Tables}
use Rattle.dg_base.specs.Progress.{Progress}
use Rattle.dg_labels.specs.declared.kinds.TheConstants as kinds
use Rattle.dg_labels.specs.declared.labels.TheConstants as labels
use Rattle.dg_desc.specs.declared.descs.EmbedInstDesc.{EmbedInstDesc}
use Rattle.dg_desc.specs.declared.descs.GoDesc.{GoDesc}
use Rattle.dg_sources.specs.declared.bad.Unread.{Unread}
use Rattle.dg_sources.specs.Readings.{object_in}
use Rattle.dg_load.specs.declared.draft.Draft.{Draft}
use Rattle.dg_load.specs.declared.collections.Site.{Site}
use Rattle.dg_load.specs.declared.state.Load.{Load}
use Rattle.dg_load.specs.declared.state.Object.{Object}
use Rattle.dg_load.specs.declared.state.Instance.{Instance}
use Rattle.dg_load.specs.Draft.{new, made, bound, connected}
use Rattle.dg_load.specs.State.{on_draft}
use Rattle.dg_load.specs.Objects.{part_node, object_kept}
use Rattle.dg_load.specs.Targets.{in_override, object_at, part_in}
use Rattle.dg_load.specs.Instances.{source_name, instance_made, instance_kept, instance_connected, embedded_home, body_steps, body_read, place_of_embedded, embedded_instance, embedded_instances}
use Rattle.dg_load_laws.proofs.Lists.{slice_get-last}
use Rattle.dg_load_laws.proofs.Naming.{Plainly, OwnsMade, Plainly-names, Reaches-through, Plainly-later, OwnsMade-later}
use Rattle.dg_load_laws.proofs.Drafts.{Holds, Persists, stands, forget, IsFresh, Fresh, Fresh-stands, Fresh-persists, connect-holds, made-holds, mark-holds, bound-holds}
use Rattle.dg_load_laws.proofs.Schema.{Cascades, FitsLoads, instance_is_no_number}
use Rattle.dg_load_laws.proofs.Facts.{ReachesPart, ObjectFits, part_node-reaches, Grounded, Ground-later, Ground-object, InstanceFits, Filling, Filling-later, Filling-object}
use Rattle.dg_load_laws.proofs.Components.{Around, Making, Making-persists, components-hold}
use Rattle.dg_load_laws.proofs.Files.{no_parts}
use Rattle.dg_load_laws.proofs.Instances.{Busy, Busy-persists, instance_made-holds, joined-holds, instance_kept-holds}

-- while its components are made: the instance has no game object yet
abbrev Waiting : Tables → ℕ → ℕ → ℕ → List Object → Load → Progress → Type 0
Waiting t node k o objects l p =
    Grounded t l p × Filling t l.objects l.filled node l.instances l.subs l.children p × IsFresh p k kinds.GO_INSTANCE × Plainly p o kinds.GAME_OBJECT × (l.objects ≡ objects)

around_waiting : {t : Tables} (node k o : ℕ) (objects : List Object) → Around t o (Waiting t node k o objects)
around_waiting {t} node k o objects = record {
  keeps = λ l p q more a b g h.
      (Ground-later a b g h.0, Filling-later a b g h.1, (Fresh-persists {t = t} (λ z. Unit {0}) k kinds.GO_INSTANCE (λ y z ns c d e u. tt) p q more a b g (tt, h.2)).1, Plainly-later a b g h.3, h.4);
  aside = λ l d resources parts p h. h;
  object_is = λ l p h. h.3;
  are_scripts = λ l p h. h.0.are_scripts;
}

-- its game object is the last one, and none of its components is overridden
embedded-fits : {t : Tables} {p : Progress} (objects : List Object) (node k place : ℕ) (object : Object) → place ≡ length objects → ObjectFits t object p → Plainly p k kinds.GO_INSTANCE → OwnsMade t p node k → OwnsMade t p k object.node →
    InstanceFits t (objects ++ object ∷ []) node p (record { node = k; over = None; object = Some place })
embedded-fits {t} {p} objects node k place object at fit is owns holds = record {
  is = is;
  in_range = (let sum = length-append objects (object ∷ []) in omega (arith, at, sum));
  parts = λ id r e. by_part id r (part_node object id) refl (sym (ap (λ (z : Option Object). in_override None (part_in z id)) found) ∙ e);
}
  where
    found : object_at (objects ++ object ∷ []) (Some place) ≡ Some object
    found = ap (slice_get (objects ++ object ∷ [])) at ∙ slice_get-last objects object

    by_part : (id : List ℕ) (r : NodeRef) (part : Option ℕ) → part_node object id ≡ part → in_override None part ≡ Some r → ReachesPart t p node r
    by_part id r None named e = let wrong : None ≡ Some r = e in absurd cc
    by_part id r (Some part) named e =
        let same : new part ≡ r = cc in
        subst (λ (z : NodeRef). ReachesPart t p node z) same (Reaches-through owns (Reaches-through holds (part_node-reaches fit id part named)))

module _ {t : Tables} (fits : FitsLoads t) where
  module _ (listed : List (List ℕ)) (site : Site) (i : EmbedInstDesc) (k o : ℕ) (objects : List Object) where
    abbrev Made : Load → Progress → Type 0
    Made l = Making t o (Waiting t site.node k o objects) l

    -- the components of its text
    body-holds : (l : Load) → Holds t (Made l) l.draft → Holds t (Made (body_read listed site o i l)) (body_read listed site o i l).draft
    body-holds l h = by_read (object_in i.body)
      where
        by_read : (r : Result GoDesc Unread) → Holds t (Making t o (Waiting t site.node k o objects) (body_steps listed site o i r l)) (body_steps listed site o i r l).draft
        by_read (Ok desc) = components-hold fits (around_waiting site.node k o objects) listed (embedded_home site o i) refl desc l h
        by_read (Err why) =
            let M = Making t o (Waiting t site.node k o objects) l in
            let marks = mark-holds {P = M} (stands M (Making-persists (around_waiting site.node k o objects) l)) l.draft o kinds.GAME_OBJECT (λ p ready facts. Plainly-names ready facts.0.3) h in
            record { leads = marks.leads; counted = marks.counted; made_names = marks.made_names }

    abbrev embedded_kept : Load → Load
    embedded_kept l =
        instance_kept i.id (record { node = k; over = None; object = Some (length objects) }) i.children
        (on_draft (λ d. instance_connected site k (connected o labels.OBJECT k labels.SOURCE d)) (object_kept o l))

    -- the object is kept, and connected to the instance, which is connected to the collection
    kept-holds : (l : Load) → Holds t (Made l) l.draft →
        Holds t (Busy t site.node (embedded_kept l)) (embedded_kept l).draft
    kept-holds l h =
        instance_kept-holds i.id inst i.children l2 (
        forget (λ p. X p × OwnsMade t p site.node k) (λ p. Busy t site.node l2 p × InstanceFits t l2.objects site.node p inst)
        (λ p ready facts.
        let busy = facts.0.0.0 in
        (busy, embedded-fits l.objects site.node k (length objects) object (ap length (sym facts.0.0.2)) (busy.0.are_objects (length l.objects) object (slice_get-last l.objects object)) facts.0.0.1 facts.1 facts.0.1))
        l2.draft (
        joined-holds fits {P = X} stay kinds.GO_INSTANCE labels.INSTANCES fits.go_instance fits.instances_array fits.instances_cascade k site.node (λ p facts. facts.0.1) (λ p facts. facts.0.0.3.is) one (
        forget (λ q. Y q × (Cascades t kinds.GO_INSTANCE labels.SOURCE → OwnsMade t q k o)) X (λ p ready facts. (facts.0, facts.1 fits.object_cascade)) one (
        connect-holds kinds.NUM F Y
        (λ p q a b g facts. (Busy-persists kinds.NUM site.node l1 p q [] a b g facts.0, Plainly-later a b g facts.1.is, facts.3)) l.draft o labels.OBJECT k kinds.GO_INSTANCE labels.SOURCE
        (λ p ready facts. record { from = kinds.GAME_OBJECT; names = Plainly-names ready facts.2; fits = fits.object_source }) (λ p facts. facts.1.is) instance_is_no_number (λ p facts. inr facts.1.no_arcs) (
        forget (Made l) F
        (λ p ready facts.
        let w = facts.0 in
        ((Ground-object object (record { is = w.3; parts = facts.2 }) w.0, facts.1, refl, Filling-object object w.0.closed w.1), w.2, w.3, w.4)) l.draft h)))))
      where
        object : Object
        object = record { node = o; parts = l.parts }

        inst : Instance
        inst = record { node = k; over = None; object = Some (length objects) }

        l1 : Load
        l1 = object_kept o l

        one : Draft
        one = connected o labels.OBJECT k labels.SOURCE l.draft

        l2 : Load
        l2 = on_draft (λ d. instance_connected site k (connected o labels.OBJECT k labels.SOURCE d)) l1

        F : Progress → Type 0
        F p = Busy t site.node l1 p × IsFresh p k kinds.GO_INSTANCE × Plainly p o kinds.GAME_OBJECT × (l.objects ≡ objects)

        Y : Progress → Type 0
        Y p = Busy t site.node l1 p × Plainly p k kinds.GO_INSTANCE × (l.objects ≡ objects)

        X : Progress → Type 0
        X p = Y p × OwnsMade t p k o

        stay : Persists t kinds.NUM X
        stay p q more a b g facts = ((Busy-persists kinds.NUM site.node l1 p q more a b g facts.0.0, Plainly-later a b g facts.0.1, facts.0.2), OwnsMade-later a b g facts.1)

  embedded_instance-holds : (listed : List (List ℕ)) (site : Site) (l : Load) (i : EmbedInstDesc) → Holds t (Busy t site.node l) l.draft →
      Holds t (Busy t site.node (embedded_instance listed site l i)) (embedded_instance listed site l i).draft
  embedded_instance-holds listed site l i h =
      kept-holds listed site i k o l.objects (body_read listed site o i l2) (
      body-holds listed site i k o l.objects l2 (
      forget (Fresh (Fresh P k kinds.GO_INSTANCE) o kinds.GAME_OBJECT) (Made listed site i k o l.objects l2)
      (λ p ready facts.
      let busy = facts.0.0 in
      ((busy.0, busy.3, facts.0.1, facts.1.is, refl), busy.1, no_parts o p l.parts busy.2)) l2.draft (
      bound-holds {P = Fresh (Fresh P k kinds.GO_INSTANCE) o kinds.GAME_OBJECT} (source_name site i.id) o (made kinds.GAME_OBJECT l1.draft) (omega arith) (
      made-holds {P = Fresh P k kinds.GO_INSTANCE} (Fresh-stands P (stands P (Busy-persists kinds.NUM site.node l)) k kinds.GO_INSTANCE) l1.draft kinds.GAME_OBJECT (
      instance_made-holds fits {P = P} (stands P (Busy-persists kinds.NUM site.node l)) kinds.GO_INSTANCE fits.go_id fits.go_position fits.go_rotation fits.go_scale site i.id (place_of_embedded i) l.draft h)))))
    where
      P : Progress → Type 0
      P = Busy t site.node l

      k : ℕ
      k = l.draft.makes

      l1 : Load
      l1 = on_draft (instance_made kinds.GO_INSTANCE site i.id (place_of_embedded i)) l

      o : ℕ
      o = l1.draft.makes

      l2 : Load
      l2 = on_draft (λ d. bound (source_name site i.id) d.makes (made kinds.GAME_OBJECT d)) l1

  pub embedded_instances-hold : (listed : List (List ℕ)) (site : Site) (descs : List EmbedInstDesc) (l : Load) → Holds t (Busy t site.node l) l.draft →
      Holds t (Busy t site.node (embedded_instances listed site descs l)) (embedded_instances listed site descs l).draft
  embedded_instances-hold listed site [] l h = h
  embedded_instances-hold listed site (i ∷ descs) l h = embedded_instances-hold listed site descs (embedded_instance listed site l i) (embedded_instance-holds listed site l i h)
