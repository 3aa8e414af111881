-- Of two trees that are the same but for lines, both have a fault or neither.
use Rattle.std.proofs.Common.{◌≡◌, ℕ, Bool, true, false, cond, not, ◌&&◌, ◌||◌, List, [], ◌∷◌, Option, Some, None, refl, ap, sym, ◌∙◌, bytes_eq}
use Rattle.std.specs.Option.{option_or}
use Rattle.dg_ptext.specs.declared.tree.Field.{Field}
use Rattle.dg_ptext.specs.declared.tree.Value.{Value}
use Rattle.dg_ptext.specs.Same.{SameFields, SameValue}
use Rattle.dg_ptext.specs.Same.SameFields.{none, one_more}
use Rattle.dg_ptext.specs.Same.SameValue.{bare, quoted, message}
use Rattle.dg_desc.specs.declared.known.Message.{Message}
use Rattle.dg_desc.specs.declared.known.FieldName.{FieldName}
use Rattle.dg_desc.specs.declared.known.Form.{Form}
use Rattle.dg_desc.specs.declared.known.Form.TheVariants as form
use Rattle.dg_desc.specs.declared.known.Row.{Row}
use Rattle.dg_desc.specs.declared.known.Place.{Place}
use Rattle.dg_desc.specs.declared.refusal.DescCode.{DescCode}
use Rattle.dg_desc.specs.declared.refusal.DescCode.TheVariants as code
use Rattle.dg_desc.specs.Known.{label_of, rows_of, place_in}
use Rattle.dg_desc.specs.Faults.{is_there, is_missing, missing, fits_bare, fits_quoted, unless, message_fault, value_fault, fields_fault, fault_of}
use Rattle.dg_desc.proofs.Messages.{fault-Message}
use Rattle.dg_desc.proofs.Groups.{no_faults}
use Rattle.dg_desc.proofs.SameTrees.{AreSame, are_same}

-- ---- what is missing

there_same : (n : FieldName) (xs ys : List Field) → AreSame xs ys → is_there n xs ≡ is_there n ys
there_same n [] [] h = refl
there_same n [] (y ∷ ys) h = absurd h
there_same n (x ∷ xs) [] h = absurd h
there_same n (x ∷ xs) (y ∷ ys) h = λ i. bytes_eq (h.0.0 i) (label_of n) || there_same n xs ys h.1 i

pub not_refused : (b : Bool) (refusal : DescCode) (later : Option DescCode) → cond b (Some refusal) later ≡ None → (b ≡ false) × (later ≡ None)
not_refused true refusal later h = let e : ⊥ = cc in absurd e
not_refused false refusal later h = (refl, h)

missing_same : (rows : List Row) (line other : ℕ) (xs ys : List Field) → AreSame xs ys
    → missing rows line xs ≡ None → missing rows other ys ≡ None
missing_same [] line other xs ys h none_ = refl
missing_same (r ∷ rs) line other xs ys h none_ =
    let parts = not_refused (is_missing xs r) (code.Missing line r.name) (missing rs line xs) none_ in
    let there : is_missing ys r ≡ false = ap (λ b. r.required && not b) (sym (there_same r.name xs ys h)) ∙ parts.0 in
    ap (λ b. cond b (Some (code.Missing other r.name)) (missing rs other ys)) there ∙ missing_same rs line other xs ys h parts.1

-- ---- what has another form

unless_same : (b : Bool) (line other : ℕ) (place : Place) → unless b line place ≡ None → unless b other place ≡ None
unless_same true line other place h = refl
unless_same false line other place h = let e : ⊥ = cc in absurd e

message_same : (f : Form) (line other : ℕ) (place : Place) (inner later : Message → Option DescCode)
    → ((m : Message) → inner m ≡ None → later m ≡ None) → message_fault f line place inner ≡ None → message_fault f other place later ≡ None
message_same form.Any line other place inner later each h = refl
message_same (form.Inner m) line other place inner later each h = each m h
message_same form.Text line other place inner later each h = let e : ⊥ = cc in absurd e
message_same form.Kind line other place inner later each h = let e : ⊥ = cc in absurd e
message_same form.PropertyType line other place inner later each h = let e : ⊥ = cc in absurd e
message_same form.Decimal line other place inner later each h = let e : ⊥ = cc in absurd e
message_same form.Switch line other place inner later each h = let e : ⊥ = cc in absurd e
message_same form.Never line other place inner later each h = let e : ⊥ = cc in absurd e

mutual
  fields_same : (m : Message) (xs ys : List Field) → SameFields xs ys → fields_fault m xs ≡ None → fields_fault m ys ≡ None
  fields_same m xs ys (none _ _ e f) h = ap (fields_fault m) f
  fields_same m xs ys (one_more _ _ label line other v w more others same rest e f) h =
      let parts = no_faults (value_fault (place_in m label) line v) (fields_fault m more) (ap (fields_fault m) (sym e) ∙ h) in
      ap (fields_fault m) f
      ∙ (ap (λ o. option_or o (fields_fault m others)) (value_same (place_in m label) line other v w same parts.0)
      ∙ fields_same m more others rest parts.1)

  value_same : (place : Place) (line other : ℕ) (v w : Value) → SameValue v w → value_fault place line v ≡ None → value_fault place other w ≡ None
  value_same place line other v w (bare _ _ word e f) h =
      ap (value_fault place other) f ∙ unless_same (fits_bare place.form word) line other place (ap (value_fault place line) (sym e) ∙ h)
  value_same place line other v w (quoted _ _ text e f) h =
      ap (value_fault place other) f ∙ unless_same (fits_quoted place.form text) line other place (ap (value_fault place line) (sym e) ∙ h)
  value_same place line other v w (message _ _ fields others same e f) h =
      ap (value_fault place other) f
      ∙ (fault-Message place other others
      ∙ message_same place.form line other place (λ m. fault_of m line fields) (λ m. fault_of m other others)
      (λ m none_. let parts = no_faults (fields_fault m fields) (missing (rows_of m) line fields) none_ in
      ap (λ o. option_or o (missing (rows_of m) other others)) (fields_same m fields others same parts.0)
      ∙ missing_same (rows_of m) line other fields others (are_same fields others same) parts.1)
      (sym (fault-Message place line fields) ∙ (ap (value_fault place line) (sym e) ∙ h)))

pub fault_same : (m : Message) (line other : ℕ) (xs ys : List Field) → SameFields xs ys → fault_of m line xs ≡ None → fault_of m other ys ≡ None
fault_same m line other xs ys same h =
    let parts = no_faults (fields_fault m xs) (missing (rows_of m) line xs) h in
    ap (λ o. option_or o (missing (rows_of m) other ys)) (fields_same m xs ys same parts.0)
    ∙ missing_same (rows_of m) line other xs ys (are_same xs ys same) parts.1
