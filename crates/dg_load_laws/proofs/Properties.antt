-- What a load sets on nodes fits their kinds.
use Rattle.std.proofs.Common.{◌≡◌, ◌≢◌, ℕ, ◌≤◌, true, ◌&&◌, List, [], ◌∷◌, Option, Some, None, refl, sym, ap, ◌∙◌, arith, le-leb, eq-eqb}
use Rattle.dg_base.specs.declared.ids.Label.{Label}
use Rattle.dg_base.specs.declared.ids.Kind.{Kind}
use Rattle.dg_base.specs.declared.ids.TheConstants.{FIRST_OPEN}
use Rattle.dg_base.specs.declared.datum.Datum.TheVariants as datum
use Rattle.dg_base.specs.declared.datum.PType.{PType}
use Rattle.dg_base.specs.declared.datum.V3.{V3}
use Rattle.dg_base.specs.declared.datum.V4.{V4}
use Rattle.dg_base.specs.declared.schema.Role.{Role}
use Rattle.dg_base.specs.declared.schema.Role.TheVariants as role
use Rattle.dg_base.specs.declared.step.NodeRef.{NodeRef}
use Rattle.dg_base.specs.Role.{is_prop_named}
use Rattle.dg_base.specs.Names.{interned}
use Rattle.dg_base.specs.Tables.{Tables, AreTables}
use Rattle.dg_base.specs.Rule.{is_open_label}
use Rattle.dg_base.specs.Sound.{may_be_set}
use Rattle.dg_base.specs.Progress.{Progress, IsReady}
use Rattle.dg_labels.specs.declared.labels.TheConstants as labels
use Rattle.dg_lua.specs.declared.declaration.Declaration.{Declaration}
use Rattle.dg_desc.specs.declared.descs.PropDesc.{PropDesc}
use Rattle.dg_sources.specs.declared.bad.Unread.{Unread}
use Rattle.dg_load.specs.declared.draft.Draft.{Draft}
use Rattle.dg_load.specs.Draft.{new, set_vector, set_rotation, made, bound, refused, file_made}
use Rattle.dg_load.specs.Properties.{label_in, property, set_open, declared, set_properties}
use Rattle.dg_load_laws.proofs.Naming.{Names, Plainly-names}
use Rattle.dg_load_laws.proofs.Drafts.{Holds, Stands, Fresh, Fresh-stands, set-holds, mark-holds, made-holds, bound-holds}

-- ---- open properties

open-role : {t : Tables} → AreTables t → (k : Kind) (l : Label) → FIRST_OPEN ≤ l.0 → t.role k l ≡ role.Nothing
open-role {t} laws k l high = by_role (t.role k l) refl
  where
    known : t.role k l ≢ role.Nothing → ⊥
    known other = let low = laws.low k l (laws.others k l other) in omega (arith, low, high)

    by_role : (w : Role) → t.role k l ≡ w → w ≡ role.Nothing
    by_role role.Nothing e = refl
    by_role (role.Property ty) e = absurd (known (λ none. let wrong : role.Property ty ≡ role.Nothing = sym e ∙ none in cc))
    by_role (role.Output ty cached) e = absurd (known (λ none. let wrong : role.Output ty cached ≡ role.Nothing = sym e ∙ none in cc))
    by_role (role.Input ty a b c) e = absurd (known (λ none. let wrong : role.Input ty a b c ≡ role.Nothing = sym e ∙ none in cc))

label_in-high : (names : List (List ℕ)) (id : List ℕ) → FIRST_OPEN ≤ (label_in names id).0
label_in-high names id = omega arith

-- an interned id names a property of each open kind
property-fits : {t : Tables} → AreTables t → (k : Kind) → t.is_open k ≡ true → (names : List (List ℕ)) (id : List ℕ) (ptype : PType) (words : List ℕ) →
    may_be_set (t.is_open k) (label_in names id) (property (label_in names id) ptype words) (t.role k (label_in names id)) ≡ true
property-fits {t} laws k opens names id ptype words =
    let l = label_in names id in
    let high : is_open_label l ≡ true = le-leb FIRST_OPEN l.0 (label_in-high names id) in
    ap (may_be_set (t.is_open k) l (property l ptype words)) (open-role laws k l (label_in-high names id))
    ∙ ap (λ b. b && (is_open_label l && is_prop_named l (property l ptype words))) opens
    ∙ ap (λ b. b && is_prop_named l (property l ptype words)) high
    ∙ eq-eqb l.0 l.0 refl

module _ {t : Tables} (laws : AreTables t) {P : Progress → Type 0} (keep : Stands t P) (r : NodeRef) (k : Kind) (named : (p : Progress) → IsReady t p → P p → Names p r k) where
  pub set_open-holds : t.is_open k ≡ true → (id : List ℕ) (ptype : PType) (words : List ℕ) (d : Draft) → Holds t P d → Holds t P (set_open r id ptype words d)
  set_open-holds opens id ptype words d h =
      set-holds keep (record d { names = interned d.names id }) r k (label_in d.names id) (property (label_in d.names id) ptype words) named (property-fits laws k opens d.names id ptype words)
      (record { leads = h.leads; counted = h.counted; made_names = h.made_names })

  pub set_properties-holds : t.is_open k ≡ true → (ps : List PropDesc) (d : Draft) → Holds t P d → Holds t P (set_properties r ps d)
  set_properties-holds opens [] d h = h
  set_properties-holds opens (one ∷ ps) d h =
      set_properties-holds opens ps (set_open r one.id one.kind one.value d) (set_open-holds opens one.id one.kind one.value d h)

module _ {t : Tables} (laws : AreTables t) {P : Progress → Type 0} (keep : Stands t P) (m : ℕ) (k : Kind) (named : (p : Progress) → IsReady t p → P p → Names p (new m) k) where
  pub declared-holds : t.is_open k ≡ true → (ds : List Declaration) (d : Draft) → Holds t P d → Holds t P (declared m ds d)
  declared-holds opens [] d h = h
  declared-holds opens (one ∷ ds) d h =
      declared-holds opens ds (set_open (new m) one.id one.ptype one.text d) (set_open-holds laws keep (new m) k named opens one.id one.ptype one.text d h)

  -- ---- places

  abbrev MayBeVector : Label → Type 0
  MayBeVector label = (v : V3) → may_be_set (t.is_open k) label (datum.Vec3 v) (t.role k label) ≡ true

  abbrev MayBeRotation : Type 0
  MayBeRotation = (q : V4) → may_be_set (t.is_open k) labels.ROTATION (datum.Quat q) (t.role k labels.ROTATION) ≡ true

  pub set_vector-holds : (label : Label) → MayBeVector label → (v : Option V3) (d : Draft) → Holds t P d → Holds t P (set_vector m label v d)
  set_vector-holds label fits None d h = h
  set_vector-holds label fits (Some v) d h = set-holds keep d (new m) k label (datum.Vec3 v) named (fits v) h

  pub set_rotation-holds : MayBeRotation → (q : Option V4) (d : Draft) → Holds t P d → Holds t P (set_rotation m q d)
  set_rotation-holds fits None d h = h
  set_rotation-holds fits (Some q) d h = set-holds keep d (new m) k labels.ROTATION (datum.Quat q) named (fits q) h

  -- ---- files that can't be read

  pub refused-holds : (path : List ℕ) (why : Unread) (d : Draft) → Holds t P d → Holds t P (refused m path why d)
  refused-holds path why d h =
      let marks = mark-holds keep d m k named h in
      record { leads = marks.leads; counted = marks.counted; made_names = marks.made_names }

-- ---- the node of a file

pub fresh_names : {t : Tables} (P : Progress → Type 0) {m : ℕ} {k : Kind} → (p : Progress) → IsReady t p → Fresh P m k p → Names p (new m) k
fresh_names P p ready facts = Plainly-names ready facts.1.is

pub file_made-holds : {t : Tables} {P : Progress → Type 0} → Stands t P → (k : Kind) → ((words : List ℕ) → may_be_set (t.is_open k) labels.PATH (datum.Text words) (t.role k labels.PATH) ≡ true) →
    (path : List ℕ) (d : Draft) → Holds t P d → Holds t (Fresh P d.makes k) (file_made k path d)
file_made-holds {t} {P} keep k fits path d h =
    set-holds {P = Fresh P d.makes k} (Fresh-stands P keep d.makes k) (bound path d.makes (made k d)) (new d.makes) k labels.PATH (datum.Text path) (fresh_names P) (fits path)
    (bound-holds {P = Fresh P d.makes k} path d.makes (made k d) (omega arith) (made-holds keep d k h))
