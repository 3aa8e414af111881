-- Collections are filled, one after the other.
use Rattle.std.proofs.Common.{◌≡◌, ℕ, List, [], ◌∷◌, Option, Some, None, Result, Ok, Err, Contains, slice_get, fold, refl, sym, ap, ◌∙◌, subst, inl}
use Rattle.dg_base.specs.Tables.{Tables}
use Rattle.dg_base.specs.Progress.{Progress}
use Rattle.dg_labels.specs.declared.kinds.TheConstants as kinds
use Rattle.dg_labels.specs.declared.labels.TheConstants as labels
use Rattle.dg_desc.specs.declared.descs.CollDesc.{CollDesc}
use Rattle.dg_sources.specs.declared.bad.Unread.{Unread}
use Rattle.dg_sources.specs.declared.source.CollSource.{CollSource}
use Rattle.dg_load.specs.declared.draft.Draft.{Draft}
use Rattle.dg_load.specs.declared.collections.Site.{Site}
use Rattle.dg_load.specs.declared.state.Load.{Load}
use Rattle.dg_load.specs.declared.state.Instance.{Instance}
use Rattle.dg_load.specs.declared.state.Sub.{Sub}
use Rattle.dg_load.specs.declared.state.Child.{Child}
use Rattle.dg_load.specs.Named.{find}
use Rattle.dg_load.specs.Instances.{instances, embedded_instances}
use Rattle.dg_load.specs.Subs.{collection_instances}
use Rattle.dg_load.specs.Children.{child_steps, child_connected}
use Rattle.dg_load.specs.Collections.{filled_with, filled_kept, fill_one, fill_at, fill_all}
use Rattle.dg_laws.proofs.Members.{Contains-head, Contains-tail, Contains-none}
use Rattle.dg_load_laws.proofs.Naming.{Plainly, OwnsMade, Plainly-names}
use Rattle.dg_load_laws.proofs.Drafts.{Holds, forget, connect-holds}
use Rattle.dg_load_laws.proofs.Schema.{Cascades, FitsLoads, instance_is_no_number}
use Rattle.dg_load_laws.proofs.Facts.{Grounded, Filling, Ground-filled}
use Rattle.dg_load_laws.proofs.Files.{Idle}
use Rattle.dg_load_laws.proofs.Instances.{Busy, Busy-persists, instances-hold}
use Rattle.dg_load_laws.proofs.Embedded.{embedded_instances-hold}
use Rattle.dg_load_laws.proofs.Subs.{collection_instances-hold}

-- ---- the begin

nothing_yet : {t : Tables} (l : Load) {p : Progress} (node : ℕ) → Plainly p node kinds.COLLECTION → l.instances ≡ [] → l.subs ≡ [] → l.children ≡ [] → Filling t l.objects l.filled node l.instances l.subs l.children p
nothing_yet {t} l {p} node is no_instances no_subs no_children = record {
  is = is;
  are_instances = λ id i named. none_named (ap (λ (z : List (List ℕ × Instance)). find z id) (sym no_instances) ∙ named);
  are_subs = λ id s named. none_named (ap (λ (z : List (List ℕ × Option Sub)). find z id) (sym no_subs) ∙ named);
  are_children = λ c there. Contains-none c (subst (λ (z : List Child). Contains z c) no_children there);
}
  where
    none_named : {V Q : Type 0} {v : V} → None ≡ Some v → Q
    none_named {V} {Q} {v} e = let wrong : None ≡ Some v = e in absurd cc

begun-busy : {t : Tables} (node : ℕ) (l : Load) → ((p : Progress) → Grounded t l p → Plainly p node kinds.COLLECTION) → Holds t (Idle t l) l.draft → Holds t (Busy t node l) l.draft
begun-busy {t} node l is h =
    forget (Idle t l) (Busy t node l) (λ p ready facts. (facts.0, facts.1, facts.2, nothing_yet l node (is p facts.0) facts.3.0 facts.3.1 facts.3.2)) l.draft h

-- ---- children

module _ {t : Tables} (fits : FitsLoads t) where
  child-holds : (site : Site) (l : Load) (c : Child) → Contains l.children c → (d : Draft) → Holds t (Busy t site.node l) d → Holds t (Busy t site.node l) (child_connected site l.instances d c)
  child-holds site l c there d h = by_instance (find l.instances c.id) refl
    where
      B : Progress → Type 0
      B = Busy t site.node l

      by_instance : (o : Option Instance) → find l.instances c.id ≡ o → Holds t B (child_steps site c o d)
      by_instance None named = record { leads = h.leads; counted = h.counted; made_names = h.made_names }
      by_instance (Some i) named =
          forget (λ q. B q × (Cascades t kinds.GO_INSTANCE labels.CHILDREN → OwnsMade t q c.parent i.node)) B (λ p ready facts. facts.0) (child_steps site c (Some i) d)
          (connect-holds kinds.NUM B B (λ p q a b g facts. Busy-persists kinds.NUM site.node l p q [] a b g facts) d i.node labels.ID c.parent kinds.GO_INSTANCE labels.CHILDREN
          (λ p ready facts. record { from = kinds.GO_INSTANCE; names = Plainly-names ready (facts.3.are_instances c.id i named).is; fits = fits.child }) (λ p facts. facts.3.are_children c there) instance_is_no_number
          (λ p facts. inl fits.children_array) h)

  children-hold : (site : Site) (l : Load) (cs : List Child) → ((c : Child) → Contains cs c → Contains l.children c) → (d : Draft) → Holds t (Busy t site.node l) d →
      Holds t (Busy t site.node l) (fold (child_connected site l.instances) d cs)
  children-hold site l [] among d h = h
  children-hold site l (c ∷ cs) among d h =
      children-hold site l cs (λ z there. among z (Contains-tail c cs z there)) (child_connected site l.instances d c) (child-holds site l c (among c (Contains-head c cs)) d h)

  -- ---- all that fills a collection

  filled_with-holds : (listed : List (List ℕ)) (site : Site) (r : Result CollDesc Unread) (l : Load) → Holds t (Busy t site.node l) l.draft → Holds t (Busy t site.node (filled_with listed site r l)) (filled_with listed site r l).draft
  filled_with-holds listed site (Ok desc) l h =
      let one = instances site desc.instances l in
      let two = embedded_instances listed site desc.embedded_instances one in
      let three = collection_instances site desc.collection_instances two in
      children-hold site three three.children (λ c there. there) three.draft (
      collection_instances-hold fits site desc.collection_instances two (
      embedded_instances-hold fits listed site desc.embedded_instances one (
      instances-hold fits site desc.instances l h)))
  filled_with-holds listed site (Err why) l h = h

  filled_kept-holds : (site : Site) (l : Load) → Holds t (Busy t site.node l) l.draft → Holds t (Idle t (filled_kept site l)) (filled_kept site l).draft
  filled_kept-holds site l h =
      forget (Busy t site.node l) (Idle t (filled_kept site l)) (λ p ready facts. (Ground-filled facts.0 facts.3, facts.1, facts.2, (refl, refl, refl))) l.draft h

  fill_at-holds : (listed : List (List ℕ)) (sources : List CollSource) (l : Load) (at : ℕ) → Holds t (Idle t l) l.draft → Holds t (Idle t (fill_at listed sources l at)) (fill_at listed sources l at).draft
  fill_at-holds listed sources l at h = by_parts (slice_get sources at) (slice_get l.collections at) refl
    where
      by_parts : (s : Option CollSource) (k : Option ℕ) → slice_get l.collections at ≡ k → Holds t (Idle t (fill_one listed s k l)) (fill_one listed s k l).draft
      by_parts (Some s) (Some k) there =
          let site : Site = record { path = s.path; node = k } in
          filled_kept-holds site (filled_with listed site s.read l) (
          filled_with-holds listed site s.read l (begun-busy k l (λ p ground. ground.are_collections at k there) h))
      by_parts (Some s) None there = h
      by_parts None k there = h

  pub fill_all-holds : (listed : List (List ℕ)) (sources : List CollSource) (order : List ℕ) (l : Load) → Holds t (Idle t l) l.draft → Holds t (Idle t (fill_all listed sources order l)) (fill_all listed sources order l).draft
  fill_all-holds listed sources [] l h = h
  fill_all-holds listed sources (at ∷ order) l h = fill_all-holds listed sources order (fill_at listed sources l at) (fill_at-holds listed sources l at h)
