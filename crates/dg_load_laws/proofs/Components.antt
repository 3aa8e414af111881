-- The components of a game object, whatever stands around it.
use Rattle.std.proofs.Common.{◌≡◌, ◌⊎◌, ℕ, Bool, true, false, cond, List, [], ◌∷◌, ◌++◌, Option, Some, None, is_some, fold, refl, sym, ◌∙◌, subst, inl, inr, arith}
use Rattle.std.specs.Option.{option_or}
use Rattle.dg_base.specs.declared.ids.NodeId.{NodeId}
use Rattle.dg_base.specs.declared.ids.Kind.{Kind}
use Rattle.dg_base.specs.declared.datum.Datum.TheVariants as datum
use Rattle.dg_base.specs.declared.datum.V3.{V3}
use Rattle.dg_base.specs.declared.datum.V4.{V4}
use Rattle.dg_base.specs.Tables.{Tables}
use Rattle.dg_base.specs.Progress.{Progress, IsReady}
use Rattle.dg_labels.specs.declared.kinds.TheConstants as kinds
use Rattle.dg_labels.specs.declared.labels.TheConstants as labels
use Rattle.dg_desc.specs.declared.descs.RefDesc.{RefDesc}
use Rattle.dg_desc.specs.declared.descs.EmbedDesc.{EmbedDesc}
use Rattle.dg_desc.specs.declared.descs.GoDesc.{GoDesc}
use Rattle.dg_load.specs.declared.draft.Draft.{Draft}
use Rattle.dg_load.specs.declared.components.Home.{Home}
use Rattle.dg_load.specs.declared.state.Load.{Load}
use Rattle.dg_load.specs.declared.state.Part.{Part}
use Rattle.dg_load.specs.Named.{find, put}
use Rattle.dg_load.specs.Draft.{new, made, bound, set_text, set_vector, placed, connected}
use Rattle.dg_load.specs.Properties.{set_properties}
use Rattle.dg_load.specs.Components.{is_resource, known_node, new_node, resource_node, resource_made, with_resource, unscaled, source_noted, source_connected, reference_made, reference, embedded_made, embedded, components}
use Rattle.dg_load_laws.proofs.Lists.{put-each}
use Rattle.dg_load_laws.proofs.Growth.{Leaves}
use Rattle.dg_load_laws.proofs.Naming.{Names, Plainly, OwnsMade, Reaches, Plainly-names, Reaches-owned, Plainly-later, Reaches-later}
use Rattle.dg_load_laws.proofs.Drafts.{Holds, Stands, Persists, stands, forget, Fresh, Fresh-stands, Also, Gives, set-holds, connect-holds, made-holds, bound-holds}
use Rattle.dg_load_laws.proofs.Properties.{set_properties-holds, set_vector-holds, set_rotation-holds, fresh_names}
use Rattle.dg_load_laws.proofs.Schema.{HasVector, HasRotation, MayConnect, Cascades, FitsLoads, ref_is_no_instance, object_is_no_instance}
use Rattle.dg_load_laws.proofs.Facts.{ReachesPart, ScriptsFit, ResourcesFit, PartFits, PartsFit}

-- ---- one component

-- the node of a resource, where there is one
abbrev pub SourceFits : Progress → Option ℕ → Type 0
SourceFits p None = Unit {0}
SourceFits p (Some k) = Plainly p k kinds.SCRIPT_FILE ⊎ Plainly p k kinds.RESOURCE_FILE

SourceFits-later : {t : Tables} {k : Kind} {more : List NodeId} {p q : Progress} → IsReady t p → IsReady t q → Leaves k more p q → (o : Option ℕ) → SourceFits p o → SourceFits q o
SourceFits-later a b g None h = tt
SourceFits-later a b g (Some k) (inl script) = inl (Plainly-later a b g script)
SourceFits-later a b g (Some k) (inr file) = inr (Plainly-later a b g file)

source_gives : {t : Tables} → FitsLoads t → {p : Progress} → IsReady t p → (k : ℕ) → SourceFits p (Some k) → Gives t p k labels.RESOURCE kinds.COMPONENT_REF labels.RESOURCE
source_gives fits ready k (inl script) = record { from = kinds.SCRIPT_FILE; names = Plainly-names ready script; fits = fits.script_resource }
source_gives fits ready k (inr file) = record { from = kinds.RESOURCE_FILE; names = Plainly-names ready file; fits = fits.file_resource }

module _ {t : Tables} (fits : FitsLoads t) {P : Progress → Type 0} (keep : Persists t kinds.GO_INSTANCE P) where
  -- what its file says of its place
  unscaled-holds : {Q : Progress → Type 0} → Stands t Q → (m : ℕ) (k : Kind) → ((p : Progress) → IsReady t p → Q p → Names p (new m) k) → HasVector t k labels.POSITION → HasRotation t k →
      (position : Option V3) (rotation : Option V4) (d : Draft) → Holds t Q d → Holds t Q (placed m (unscaled position rotation) d)
  unscaled-holds {Q} stay m k named vectors rotations position rotation d h =
      set_rotation-holds fits.laws stay m k named rotations rotation (set_vector m labels.POSITION position d)
      (set_vector-holds fits.laws stay m k named labels.POSITION vectors position d h)

  source_connected-holds : (source : Option ℕ) (n : ℕ) → ((p : Progress) → P p → SourceFits p source) → (d : Draft) → Holds t (Fresh P n kinds.COMPONENT_REF) d →
      Holds t (Also P n kinds.COMPONENT_REF) (source_connected source n d)
  source_connected-holds None n found d h = forget (Fresh P n kinds.COMPONENT_REF) (Also P n kinds.COMPONENT_REF) (λ p ready facts. (facts.0, facts.1.is)) d h
  source_connected-holds (Some source) n found d h =
      forget (λ q. Also P n kinds.COMPONENT_REF q × (Cascades t kinds.COMPONENT_REF labels.RESOURCE → OwnsMade t q n source)) (Also P n kinds.COMPONENT_REF) (λ p ready facts. facts.0) (connected source labels.RESOURCE n labels.RESOURCE d)
      (connect-holds kinds.GO_INSTANCE (Fresh P n kinds.COMPONENT_REF) (Also P n kinds.COMPONENT_REF)
      (λ p q a b g facts. (keep p q [] a b g facts.0, Plainly-later a b g facts.1.is)) d source labels.RESOURCE n kinds.COMPONENT_REF labels.RESOURCE
      (λ p ready facts. source_gives fits ready source (found p facts.0)) (λ p facts. facts.1.is) ref_is_no_instance (λ p facts. inr facts.1.no_arcs) h)

  part_connected-holds : (n : ℕ) (kind : Kind) → MayConnect t kind labels.COMPONENT kinds.GAME_OBJECT labels.COMPONENTS → (object : ℕ) → ((p : Progress) → P p → Plainly p object kinds.GAME_OBJECT) → (d : Draft) →
      Holds t (Also P n kind) d → Holds t (λ p. P p × Reaches t kind p object (new n)) (connected n labels.COMPONENT object labels.COMPONENTS d)
  part_connected-holds n kind agrees object is d h =
      forget (λ q. Also P n kind q × (Cascades t kinds.GAME_OBJECT labels.COMPONENTS → OwnsMade t q object n)) (λ p. P p × Reaches t kind p object (new n)) (λ p ready facts. (facts.0.0, Reaches-owned ready (facts.1 fits.components_cascade) facts.0.1))
      (connected n labels.COMPONENT object labels.COMPONENTS d)
      (connect-holds kinds.GO_INSTANCE (Also P n kind) (Also P n kind)
      (λ p q a b g facts. (keep p q [] a b g facts.0, Plainly-later a b g facts.1)) d n labels.COMPONENT object kinds.GAME_OBJECT labels.COMPONENTS
      (λ p ready facts. record { from = kind; names = Plainly-names ready facts.1; fits = agrees }) (λ p facts. is p facts.0) object_is_no_instance (λ p facts. inl fits.components_array) h)

  pub reference_made-holds : (h : Home) (c : RefDesc) (source : Option ℕ) → ((p : Progress) → P p → SourceFits p source) → ((p : Progress) → P p → Plainly p h.node kinds.GAME_OBJECT) → (d : Draft) →
      Holds t P d → Holds t (λ p. P p × ReachesPart t p h.node (new d.makes)) (reference_made h c source d)
  reference_made-holds h c source found is d before =
      let n = d.makes in
      let k = kinds.COMPONENT_REF in
      let F = Fresh P n k in
      let stay = Fresh-stands P (stands P keep) n k in
      let one = bound (h.prefix ++ c.id) n (made k d) in
      let two = set_text n labels.ID c.id one in
      let three = placed n (unscaled c.position c.rotation) two in
      let four = set_properties (new n) c.properties three in
      part_connected-holds n k fits.ref_component h.node is (source_connected source n four) (
      source_connected-holds source n found four (
      set_properties-holds fits.laws {P = F} stay (new n) k (fresh_names P) fits.ref_opens c.properties three (
      unscaled-holds {Q = F} stay n k (fresh_names P) fits.ref_position fits.ref_rotation c.position c.rotation two (
      set-holds {P = F} stay one (new n) k labels.ID (datum.Text c.id) (fresh_names P) (fits.ref_id c.id) (
      bound-holds {P = F} (h.prefix ++ c.id) n (made k d) (omega arith) (
      made-holds {P = P} (stands P keep) d k before))))))

  pub embedded_made-holds : (h : Home) (c : EmbedDesc) → ((p : Progress) → P p → Plainly p h.node kinds.GAME_OBJECT) → (d : Draft) → Holds t P d → Holds t P (embedded_made h c d)
  embedded_made-holds h c is d before =
      let n = d.makes in
      let k = kinds.COMPONENT_EMBEDDED in
      let F = Fresh P n k in
      let stay = Fresh-stands P (stands P keep) n k in
      let one = bound (h.prefix ++ c.id) n (made k d) in
      let two = set_text n labels.ID c.id one in
      let three = set_text n labels.TYPE c.kind two in
      let four = set_text n labels.DATA c.body three in
      let five = placed n (unscaled c.position c.rotation) four in
      forget (λ p. P p × Reaches t k p h.node (new n)) P (λ p ready facts. facts.0) (embedded_made h c d) (
      part_connected-holds n k fits.embedded_component h.node is five (
      forget F (Also P n k) (λ p ready facts. (facts.0, facts.1.is)) five (
      unscaled-holds {Q = F} stay n k (fresh_names P) fits.embedded_position fits.embedded_rotation c.position c.rotation four (
      set-holds {P = F} stay three (new n) k labels.DATA (datum.Text c.body) (fresh_names P) (fits.embedded_data c.body) (
      set-holds {P = F} stay two (new n) k labels.TYPE (datum.Text c.kind) (fresh_names P) (fits.embedded_type c.kind) (
      set-holds {P = F} stay one (new n) k labels.ID (datum.Text c.id) (fresh_names P) (fits.embedded_id c.id) (
      bound-holds {P = F} (h.prefix ++ c.id) n (made k d) (omega arith) (
      made-holds {P = P} (stands P keep) d k before))))))))

-- ---- what stands around the components of an object

pub record Around (t : Tables) (object : ℕ) (P : Load → Progress → Type 0) : Type 0 where
  pub keeps : (l : Load) → Persists t kinds.GO_INSTANCE (P l)
  -- it says nothing of what components change
  pub aside : (l : Load) (d : Draft) (resources : List (List ℕ × ℕ)) (parts : List (List ℕ × Part)) (p : Progress) → P l p → P (record l { draft = d; resources = resources; parts = parts }) p
  pub object_is : (l : Load) (p : Progress) → P l p → Plainly p object kinds.GAME_OBJECT
  pub are_scripts : (l : Load) (p : Progress) → P l p → ScriptsFit l.scripts p

abbrev pub Making : Tables → ℕ → (Load → Progress → Type 0) → Load → Progress → Type 0
Making t object P l p = P l p × ResourcesFit l.resources p × PartsFit t object l.parts p

pub Making-persists : {t : Tables} {object : ℕ} {P : Load → Progress → Type 0} → Around t object P → (l : Load) → Persists t kinds.GO_INSTANCE (Making t object P l)
Making-persists around l p q more a b g h =
    (around.keeps l p q more a b g h.0, λ path k named. Plainly-later a b g (h.1 path k named), λ id part named is. Reaches-later a b g (h.2 id part named is))

module _ {t : Tables} (fits : FitsLoads t) {object : ℕ} {P : Load → Progress → Type 0} (around : Around t object P) where
  -- ---- resources

  known_fits : (l : Load) (p : Progress) → Making t object P l p → (path : List ℕ) (k : ℕ) → known_node path l ≡ Some k → SourceFits p (Some k)
  known_fits l p h path k e = by_script (find l.scripts path) refl e
    where
      by_script : (o : Option ℕ) → find l.scripts path ≡ o → option_or o (find l.resources path) ≡ Some k → SourceFits p (Some k)
      by_script None named d = inr (h.1 path k d)
      by_script (Some m) named d = inl (around.are_scripts l p h.0 path k (named ∙ d))

  resource_made-holds : (path : List ℕ) (l : Load) → Holds t (Making t object P l) l.draft →
      Holds t (λ p. Making t object P (resource_made path l) p × SourceFits p (Some l.draft.makes)) (resource_made path l).draft
  resource_made-holds path l h =
      let n = l.draft.makes in
      let k = kinds.RESOURCE_FILE in
      let stay = stands (Making t object P l) (Making-persists around l) in
      let one = made k l.draft in
      let two = set_text n labels.PATH path one in
      forget (Fresh (Making t object P l) n k) (λ p. Making t object P (resource_made path l) p × SourceFits p (Some n))
      (λ p ready facts.
      ((around.aside l two (put path n l.resources) l.parts p facts.0.0, put-each (λ m. Plainly p m k) path n l.resources facts.0.1 facts.1.is, facts.0.2), inr facts.1.is)) two (
      set-holds {P = Fresh (Making t object P l) n k} (Fresh-stands (Making t object P l) stay n k) one (new n) k labels.PATH (datum.Text path) (fresh_names (Making t object P l)) (fits.resource_path path) (
      made-holds {P = Making t object P l} stay l.draft k h))

  with_resource-holds : (listed : List (List ℕ)) (path : List ℕ) (l : Load) → Holds t (Making t object P l) l.draft →
      Holds t (λ p. Making t object P (with_resource listed path l) p × SourceFits p (resource_node listed path l)) (with_resource listed path l).draft
  with_resource-holds listed path l h = by_cases (known_node path l) (is_resource listed path) refl
    where
      by_cases : (o : Option ℕ) (b : Bool) → known_node path l ≡ o →
          Holds t (λ p. Making t object P (cond (is_some o) l (cond b (resource_made path l) l)) p × SourceFits p (option_or o (new_node b l.draft.makes))) (cond (is_some o) l (cond b (resource_made path l) l)).draft
      by_cases (Some k) b known =
          forget (Making t object P l) (λ p. Making t object P l p × SourceFits p (Some k)) (λ p ready facts. (facts, known_fits l p facts path k known)) l.draft h
      by_cases None true known = resource_made-holds path l h
      by_cases None false known = forget (Making t object P l) (λ p. Making t object P l p × Unit {0}) (λ p ready facts. (facts, tt)) l.draft h

  -- ---- one by a path

  noted-holds : {Q : Progress → Type 0} (h : Home) (line : ℕ) (source : Option ℕ) (d : Draft) → Holds t Q d → Holds t Q (source_noted h line source d)
  noted-holds h line (Some source) d before = before
  noted-holds h line None d before = record { leads = before.leads; counted = before.counted; made_names = before.made_names }

  pub reference-holds : (listed : List (List ℕ)) (h : Home) → h.node ≡ object → (l : Load) (c : RefDesc) → Holds t (Making t object P l) l.draft →
      Holds t (Making t object P (reference listed h l c)) (reference listed h l c).draft
  reference-holds listed h home l c before = by_load (with_resource listed c.component l) (resource_node listed c.component l) (with_resource-holds listed c.component l before)
    where
      by_load : (z : Load) (source : Option ℕ) → Holds t (λ p. Making t object P z p × SourceFits p source) z.draft →
          Holds t (Making t object P (record z { draft = reference_made h c source (source_noted h c.line source z.draft); parts = put c.id (record { node = (source_noted h c.line source z.draft).makes; is_ref = true }) z.parts }))
          (reference_made h c source (source_noted h c.line source z.draft))
      by_load z source ready =
          let P_here : Progress → Type 0 = λ p. Making t object P z p × SourceFits p source in
          let d = source_noted h c.line source z.draft in
          let part : Part = record { node = d.makes; is_ref = true } in
          let keep : Persists t kinds.GO_INSTANCE P_here = λ p q more a b g facts. (Making-persists around z p q more a b g facts.0, SourceFits-later a b g source facts.1) in
          forget (λ p. P_here p × ReachesPart t p h.node (new d.makes)) (Making t object P (record z { draft = reference_made h c source d; parts = put c.id part z.parts }))
          (λ p now facts. (
            around.aside z (reference_made h c source d) z.resources (put c.id part z.parts) p facts.0.0.0,
            facts.0.0.1,
            put-each (PartFits t object p) c.id part z.parts facts.0.0.2 (λ is. subst (λ n. ReachesPart t p n (new d.makes)) home facts.1),
          ))
          (reference_made h c source d)
          (reference_made-holds fits keep h c source (λ p facts. facts.1) (λ p facts. subst (λ n. Plainly p n kinds.GAME_OBJECT) (sym home) (around.object_is z p facts.0.0)) d
          (noted-holds {Q = P_here} h c.line source z.draft ready))

  -- ---- one in a text

  pub embedded-holds : (h : Home) → h.node ≡ object → (l : Load) (c : EmbedDesc) → Holds t (Making t object P l) l.draft → Holds t (Making t object P (embedded h l c)) (embedded h l c).draft
  embedded-holds h home l c before =
      let part : Part = record { node = l.draft.makes; is_ref = false } in
      let d = embedded_made h c l.draft in
      forget (Making t object P l) (Making t object P (embedded h l c))
      (λ p now facts. (around.aside l d l.resources (put c.id part l.parts) p facts.0, facts.1, put-each (PartFits t object p) c.id part l.parts facts.2 (λ wrong. let no : false ≡ true = wrong in absurd cc))) d
      (embedded_made-holds fits (Making-persists around l) h c (λ p facts. subst (λ n. Plainly p n kinds.GAME_OBJECT) (sym home) (around.object_is l p facts.0)) l.draft before)

  -- ---- all of them

  references-hold : (listed : List (List ℕ)) (h : Home) → h.node ≡ object → (cs : List RefDesc) (l : Load) → Holds t (Making t object P l) l.draft →
      Holds t (Making t object P (fold (reference listed h) l cs)) (fold (reference listed h) l cs).draft
  references-hold listed h home [] l before = before
  references-hold listed h home (c ∷ cs) l before = references-hold listed h home cs (reference listed h l c) (reference-holds listed h home l c before)

  embeddeds-hold : (h : Home) → h.node ≡ object → (cs : List EmbedDesc) (l : Load) → Holds t (Making t object P l) l.draft → Holds t (Making t object P (fold (embedded h) l cs)) (fold (embedded h) l cs).draft
  embeddeds-hold h home [] l before = before
  embeddeds-hold h home (c ∷ cs) l before = embeddeds-hold h home cs (embedded h l c) (embedded-holds h home l c before)

  pub components-hold : (listed : List (List ℕ)) (h : Home) → h.node ≡ object → (desc : GoDesc) (l : Load) → Holds t (Making t object P l) l.draft →
      Holds t (Making t object P (components listed h desc l)) (components listed h desc l).draft
  components-hold listed h home desc l before =
      embeddeds-hold h home desc.embedded_components (fold (reference listed h) l desc.components) (references-hold listed h home desc.components l before)
