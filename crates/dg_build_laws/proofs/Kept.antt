-- What every value keeps to: a record that has data, however deep it lies, says a type's name as its type. Of what is in
-- a value this asks the same whatever the value is for, so that no type of value is told from another.
use Rattle.std.proofs.Common.{◌≡◌, ℕ, zero, suc, Bool, true, false, ◌&&◌, List, [], ◌∷◌, Option, Some, None, refl, sym, subst, true≢false}
use Rattle.std.proofs.lemmas.Bool.{and_parts}
use Rattle.std.specs.Option.{IfSome}
use Rattle.dg_base.specs.declared.ids.Label.{Label}
use Rattle.dg_base.specs.declared.ids.Kind.{Kind}
use Rattle.dg_base.specs.declared.datum.Datum.{Datum, List', Rec', items_hidden-the_row-Datum-0, items_hidden-the_row-FieldOf-1}
use Rattle.dg_base.specs.declared.datum.Datum.TheVariants as datum
use Rattle.dg_base.specs.declared.datum.FieldOf.{FieldOf}
use Rattle.dg_base.specs.declared.schema.Ty.{Ty}
use Rattle.dg_base.specs.declared.schema.Ty.TheVariants as ty
use Rattle.dg_base.specs.declared.schema.Role.{Role}
use Rattle.dg_base.specs.declared.schema.Role.TheVariants as role
use Rattle.dg_base.specs.Same.{same_label}
use Rattle.dg_base.specs.Role.{has_type, is_prop_named}
use Rattle.dg_base.specs.Tables.{Tables}
use Rattle.dg_base.specs.Graph.{value_in}
use Rattle.dg_base.specs.Rule.{is_open_label}
use Rattle.dg_base.specs.Sound.{may_be_set, value_fits}
use Rattle.dg_labels.specs.declared.labels.TheConstants.{TYPE, DATA}
use Rattle.dg_kinds_go.specs.Values.{text_in, items_in, fields_in, field_in, or_nil}
use Rattle.dg_kinds_go.specs.Components.{is_type_name}
use Rattle.dg_build_laws.proofs.Lists.{at_test, Each, Each-weaker, Each-every}

-- fields that have data say a type's name
abbrev pub says_type : Option Datum → Option Datum → Bool
says_type None type = true
says_type (Some body) type = is_type_name (text_in type)

abbrev pub are_fit : List FieldOf → Bool
are_fit fs = says_type (value_in fs DATA) (value_in fs TYPE)

-- a value and what is in it, so deep
abbrev pub KeepsTo : ℕ → Datum → Type 0
KeepsTo zero d = Unit {0}
KeepsTo (suc k) d =
    (are_fit (fields_in (Some d)) ≡ true) × Each (KeepsTo k) (items_in (Some d)) × Each (λ f. KeepsTo k f.value) (fields_in (Some d))

abbrev pub Kept : Datum → Type 0
Kept d = (k : ℕ) → KeepsTo k d

abbrev pub KeptFields : List FieldOf → Type 0
KeptFields fs = Each (λ f. Kept f.value) fs

-- ---- values by what they are made of

pub record_kept : (fs : List FieldOf) → are_fit fs ≡ true → KeptFields fs → Kept (datum.Rec fs)
record_kept fs fit all zero = tt
record_kept fs fit all (suc k) =
    let is : fields_in (Some (datum.Rec fs)) ≡ fs = items_hidden-the_row-FieldOf-1 fs in
    let values : Each (λ f. KeepsTo k f.value) fs = Each-weaker (λ f. Kept f.value) (λ f. KeepsTo k f.value) (λ f h. h k) fs all in
    (subst (λ (l : List FieldOf). are_fit l ≡ true) (sym is) fit, tt, subst (λ (l : List FieldOf). Each (λ f. KeepsTo k f.value) l) (sym is) values)

pub list_kept : (ds : List Datum) → Each Kept ds → Kept (datum.List ds)
list_kept ds all zero = tt
list_kept ds all (suc k) =
    let is : items_in (Some (datum.List ds)) ≡ ds = items_hidden-the_row-Datum-0 ds in
    let members : Each (KeepsTo k) ds = Each-weaker Kept (KeepsTo k) (λ d h. h k) ds all in
    (refl, subst (λ (l : List Datum). Each (KeepsTo k) l) (sym is) members, tt)

-- neither a list nor a record
abbrev pub is_plain : Datum → Bool
is_plain (List' shape all) = false
is_plain (Rec' shape all) = false
is_plain _ = true

pub plain_kept : (d : Datum) → is_plain d ≡ true → Kept d
plain_kept (List' shape all) e k = absurd (true≢false (sym e))
plain_kept (Rec' shape all) e k = absurd (true≢false (sym e))
plain_kept d e zero = tt
plain_kept d e (suc k) = (refl, tt, tt)

-- ---- what is in a kept value

pub fit_kept : (d : Datum) → Kept d → are_fit (fields_in (Some d)) ≡ true
fit_kept d h = (h 1).0

pub items_kept : (d : Option Datum) → IfSome d Kept → Each Kept (items_in d)
items_kept None h = tt
items_kept (Some d) h = Each-every KeepsTo (items_in (Some d)) (λ k. (h (suc k)).1)

pub fields_kept : (d : Option Datum) → IfSome d Kept → KeptFields (fields_in d)
fields_kept None h = tt
fields_kept (Some d) h = Each-every (λ k f. KeepsTo k f.value) (fields_in (Some d)) (λ k. (h (suc k)).2)

pub label_kept : (fs : List FieldOf) (l : Label) → KeptFields fs → IfSome (value_in fs l) Kept
label_kept [] l h = tt
label_kept (f ∷ fs) l h = at_test (λ (o : Option Datum). IfSome o Kept) (same_label f.label l) (Some f.value) (value_in fs l) h.0 (label_kept fs l h.1)

pub field_kept : (d : Option Datum) (l : Label) → IfSome d Kept → IfSome (field_in d l) Kept
field_kept d l h = label_kept (fields_in d) l (fields_kept d h)

pub or_nil_kept : (d : Option Datum) → IfSome d Kept → Kept (or_nil d)
or_nil_kept None h = plain_kept datum.Nil refl
or_nil_kept (Some d) h = h

-- ---- own values

typed_plain : (t : Ty) (d : Datum) → has_type t d ≡ true → is_plain d ≡ true
typed_plain ty.Number (datum.Dec n) e = refl
typed_plain ty.Text (datum.Text t) e = refl
typed_plain ty.Flag (datum.Flag b) e = refl
typed_plain ty.Vec3 (datum.Vec3 v) e = refl
typed_plain ty.Quat (datum.Quat q) e = refl
typed_plain _ _ e = absurd (true≢false (sym e))

named_plain : (l : Label) (d : Datum) → is_prop_named l d ≡ true → is_plain d ≡ true
named_plain l (datum.Prop p) e = refl
named_plain l _ e = absurd (true≢false (sym e))

set_plain : (opens : Bool) (l : Label) (d : Datum) (r : Role) → may_be_set opens l d r ≡ true → is_plain d ≡ true
set_plain opens l d (role.Property t) e = typed_plain t d e
set_plain opens l d role.Nothing e =
    named_plain l d (and_parts (is_open_label l) (is_prop_named l d) (and_parts opens (is_open_label l && is_prop_named l d) e).1).1
set_plain opens l d _ e = absurd (true≢false (sym e))

-- a value that may be set at a label
pub set_kept : (t : Tables) (k : Option Kind) (f : FieldOf) → value_fits t k f ≡ true → Kept f.value
set_kept t None f e = absurd (true≢false (sym e))
set_kept t (Some k) f e = plain_kept f.value (set_plain (t.is_open k) f.label f.value (t.role k f.label) e)
