-- The nodes of files: scripts, game objects and collections.
use Rattle.std.proofs.Common.{◌≡◌, ℕ, Bool, true, false, List, [], ◌∷◌, Some, None, Result, Ok, Err, refl, sym, subst}
use Rattle.dg_base.specs.declared.ids.Kind.{Kind}
use Rattle.dg_base.specs.declared.datum.Datum.TheVariants as datum
use Rattle.dg_base.specs.Tables.{Tables}
use Rattle.dg_base.specs.Progress.{Progress}
use Rattle.dg_labels.specs.declared.kinds.TheConstants as kinds
use Rattle.dg_labels.specs.declared.labels.TheConstants as labels
use Rattle.dg_lua.specs.declared.declaration.Declaration.{Declaration}
use Rattle.dg_desc.specs.declared.descs.GoDesc.{GoDesc}
use Rattle.dg_desc.specs.declared.descs.CollDesc.{CollDesc}
use Rattle.dg_sources.specs.declared.bad.Unread.{Unread}
use Rattle.dg_sources.specs.declared.source.ScriptSource.{ScriptSource}
use Rattle.dg_sources.specs.declared.source.GoSource.{GoSource}
use Rattle.dg_sources.specs.declared.source.CollSource.{CollSource}
use Rattle.dg_load.specs.declared.draft.Draft.{Draft}
use Rattle.dg_load.specs.declared.state.Load.{Load}
use Rattle.dg_load.specs.declared.state.Part.{Part}
use Rattle.dg_load.specs.Named.{put}
use Rattle.dg_load.specs.Draft.{new, file_made, set_text}
use Rattle.dg_load.specs.State.{on_draft}
use Rattle.dg_load.specs.Scripts.{script_read, script, scripts}
use Rattle.dg_load.specs.Objects.{object_home, object_read, file_kept, object_file, object_files}
use Rattle.dg_load.specs.Collections.{switch_set, head_set, collection_file, collection_files}
use Rattle.dg_load_laws.proofs.Lists.{put-each}
use Rattle.dg_load_laws.proofs.Naming.{Plainly, Plainly-names, Plainly-later}
use Rattle.dg_load_laws.proofs.Drafts.{Holds, Stands, Persists, stands, forget, Fresh, Fresh-stands, set-holds}
use Rattle.dg_load_laws.proofs.Properties.{declared-holds, refused-holds, fresh_names, file_made-holds}
use Rattle.dg_load_laws.proofs.Schema.{FitsLoads}
use Rattle.dg_load_laws.proofs.Facts.{ResourcesFit, PartFits, PartsFit, Grounded, Ground-later, Ground-script, Ground-collection, Ground-object}
use Rattle.dg_load_laws.proofs.Components.{Around, Making, Making-persists, components-hold}

-- no collection is being filled
abbrev pub NoneFilled : Load → Type 0
NoneFilled l = (l.instances ≡ []) × (l.subs ≡ []) × (l.children ≡ [])

-- and no game object is being made
abbrev pub Idle : Tables → Load → Progress → Type 0
Idle t l p = Grounded t l p × ResourcesFit l.resources p × (l.parts ≡ []) × NoneFilled l

pub Idle-persists : {t : Tables} (k : Kind) (l : Load) → Persists t k (Idle t l)
Idle-persists k l p q more a b g h = (Ground-later a b g h.0, λ path m named. Plainly-later a b g (h.1 path m named), h.2, h.3)

pub no_parts : {t : Tables} (object : ℕ) (p : Progress) (parts : List (List ℕ × Part)) → parts ≡ [] → PartsFit t object parts p
no_parts {t} object p parts none = subst (λ (z : List (List ℕ × Part)). PartsFit t object z p) (sym none) (λ id part named. nothing part named)
  where
    nothing : (part : Part) → None ≡ Some part → PartFits t object p part
    nothing part named = let wrong : None ≡ Some part = named in absurd cc

module _ {t : Tables} (fits : FitsLoads t) where
  -- ---- scripts

  script-holds : (l : Load) (s : ScriptSource) → Holds t (Idle t l) l.draft → Holds t (Idle t (script l s)) (script l s).draft
  script-holds l s h =
      let made = file_made-holds {P = Idle t l} stay k fits.script_path s.path l.draft h in
      forget F (Idle t (script l s))
      (λ p ready facts. (Ground-script (put s.path n l.scripts) (put-each (λ m. Plainly p m k) s.path n l.scripts facts.0.0.are_scripts facts.1.is) facts.0.0, facts.0.1, facts.0.2, facts.0.3))
      (script l s).draft
      (by_read s.read made)
    where
      n : ℕ
      n = l.draft.makes

      k : Kind
      k = kinds.SCRIPT_FILE

      F : Progress → Type 0
      F = Fresh (Idle t l) l.draft.makes kinds.SCRIPT_FILE

      stay : Stands t (Idle t l)
      stay = stands (Idle t l) (Idle-persists k l)

      d : Draft
      d = file_made kinds.SCRIPT_FILE s.path l.draft

      by_read : (r : Result (List Declaration) Unread) → Holds t F d → Holds t F (script_read l.draft.makes s.path r d)
      by_read (Ok ds) made = declared-holds fits.laws {P = F} (Fresh-stands (Idle t l) stay n k) n k (fresh_names (Idle t l)) fits.script_opens ds d made
      by_read (Err why) made = refused-holds fits.laws {P = F} (Fresh-stands (Idle t l) stay n k) n k (fresh_names (Idle t l)) s.path why d made

  pub scripts-hold : (sources : List ScriptSource) (l : Load) → Holds t (Idle t l) l.draft → Holds t (Idle t (scripts sources l)) (scripts sources l).draft
  scripts-hold [] l h = h
  scripts-hold (s ∷ sources) l h = scripts-hold sources (script l s) (script-holds l s h)

  -- ---- game objects

  abbrev With_object : ℕ → Load → Progress → Type 0
  With_object k l p = Grounded t l p × Plainly p k kinds.GAME_OBJECT × NoneFilled l

  around_object : (k : ℕ) → Around t k (With_object k)
  around_object k = record {
    keeps = λ l p q more a b g h. (Ground-later a b g h.0, Plainly-later a b g h.1, h.2);
    aside = λ l d resources parts p h. h;
    object_is = λ l p h. h.1;
    are_scripts = λ l p h. h.0.are_scripts;
  }

  file_kept-holds : (path : List ℕ) (k : ℕ) (l : Load) → Holds t (Making t k (With_object k) l) l.draft → Holds t (Idle t (file_kept path k l)) (file_kept path k l).draft
  file_kept-holds path k l h =
      forget (Making t k (With_object k) l) (Idle t (file_kept path k l))
      (λ p ready facts. (Ground-object (record { node = k; parts = l.parts }) (record { is = facts.0.1; parts = facts.2 }) facts.0.0, facts.1, refl, facts.0.2)) l.draft h

  object_file-holds : (listed : List (List ℕ)) (l : Load) (s : GoSource) → Holds t (Idle t l) l.draft → Holds t (Idle t (object_file listed l s)) (object_file listed l s).draft
  object_file-holds listed l s h =
      file_kept-holds s.path n (object_read listed n s.path s.read l1) (by_read s.read (
      forget F M (λ p ready facts. ((facts.0.0, facts.1.is, facts.0.3), facts.0.1, no_parts n p l.parts facts.0.2)) l1.draft
      (file_made-holds {P = Idle t l} (stands (Idle t l) (Idle-persists kinds.GAME_OBJECT l)) kinds.GAME_OBJECT fits.object_path s.path l.draft h)))
    where
      n : ℕ
      n = l.draft.makes

      l1 : Load
      l1 = on_draft (file_made kinds.GAME_OBJECT s.path) l

      F : Progress → Type 0
      F = Fresh (Idle t l) l.draft.makes kinds.GAME_OBJECT

      M : Progress → Type 0
      M = Making t l.draft.makes (With_object l.draft.makes) (on_draft (file_made kinds.GAME_OBJECT s.path) l)

      by_read : (r : Result GoDesc Unread) → Holds t M l1.draft → Holds t (Making t n (With_object n) (object_read listed n s.path r l1)) (object_read listed n s.path r l1).draft
      by_read (Ok desc) made = components-hold fits (around_object n) listed (object_home n s.path) refl desc l1 made
      by_read (Err why) made =
          refused-holds fits.laws {P = M} (stands M (Making-persists (around_object n) l1)) n kinds.GAME_OBJECT (λ p ready facts. Plainly-names ready facts.0.1) s.path why l1.draft made

  pub object_files-hold : (listed : List (List ℕ)) (sources : List GoSource) (l : Load) → Holds t (Idle t l) l.draft → Holds t (Idle t (object_files listed sources l)) (object_files listed sources l).draft
  object_files-hold listed [] l h = h
  object_files-hold listed (s ∷ sources) l h = object_files-hold listed sources (object_file listed l s) (object_file-holds listed l s h)

  -- ---- collections

  collection_file-holds : (l : Load) (s : CollSource) → Holds t (Idle t l) l.draft → Holds t (Idle t (collection_file l s)) (collection_file l s).draft
  collection_file-holds l s h =
      forget F (Idle t (collection_file l s)) (λ p ready facts. (Ground-collection n facts.1.is facts.0.0, facts.0.1, facts.0.2, facts.0.3)) (collection_file l s).draft
      (by_read s.read (file_made-holds {P = Idle t l} stay kinds.COLLECTION fits.collection_path s.path l.draft h))
    where
      n : ℕ
      n = l.draft.makes

      k : Kind
      k = kinds.COLLECTION

      F : Progress → Type 0
      F = Fresh (Idle t l) l.draft.makes kinds.COLLECTION

      stay : Stands t (Idle t l)
      stay = stands (Idle t l) (Idle-persists k l)

      fresh : Stands t F
      fresh = Fresh-stands (Idle t l) stay n k

      d : Draft
      d = file_made kinds.COLLECTION s.path l.draft

      by_switch : (b : Bool) (e : Draft) → Holds t F e → Holds t F (switch_set l.draft.makes b e)
      by_switch true e made = set-holds {P = F} fresh e (new n) k labels.SCALE_ALONG_Z (datum.Flag true) (fresh_names (Idle t l)) fits.collection_switch made
      by_switch false e made = made

      by_read : (r : Result CollDesc Unread) → Holds t F d → Holds t F (head_set l.draft.makes s.path r d)
      by_read (Ok desc) made =
          by_switch desc.scale_along_z (set_text n labels.NAME desc.name d)
          (set-holds {P = F} fresh d (new n) k labels.NAME (datum.Text desc.name) (fresh_names (Idle t l)) (fits.collection_name desc.name) made)
      by_read (Err why) made = refused-holds fits.laws {P = F} fresh n k (fresh_names (Idle t l)) s.path why d made

  pub collection_files-hold : (sources : List CollSource) (l : Load) → Holds t (Idle t l) l.draft → Holds t (Idle t (collection_files sources l)) (collection_files sources l).draft
  collection_files-hold [] l h = h
  collection_files-hold (s ∷ sources) l h = collection_files-hold sources (collection_file l s) (collection_file-holds l s h)
