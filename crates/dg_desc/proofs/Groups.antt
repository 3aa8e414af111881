-- Trees in groups, each of fields of one known name, with the unknown fields behind them: what is found in them by name.
use Rattle.std.proofs.Common.{◌≡◌, Bool, true, false, cond, ◌&&◌, ◌||◌, not, List, [], ◌∷◌, ◌++◌, Option, Some, None, is_some, is_none, ℕ, refl, ap, subst, ap₂, ◌∙◌, append-nil, bytes_eq}
use Rattle.std.specs.List.{AllByRecursion, list_all}
use Rattle.std.specs.Option.{option_or}
use Rattle.std.proofs.lemmas.Bool.{and_parts}
use Rattle.std.proofs.lemmas.List.Elements.{filter-append, filter_passes, recursion_from_All}
use Rattle.std.proofs.lemmas.Slice.Eq.{bytes_eq-Decides}
use Rattle.dg_ptext.specs.declared.tree.Field.{Field}
use Rattle.dg_ptext.specs.declared.tree.Value.{Value, Bare, Quoted, Message'}
use Rattle.dg_desc.specs.declared.known.Message.{Message}
use Rattle.dg_desc.specs.declared.known.FieldName.{FieldName}
use Rattle.dg_desc.specs.declared.known.Row.{Row}
use Rattle.dg_desc.specs.declared.refusal.DescCode.{DescCode}
use Rattle.dg_desc.specs.declared.refusal.DescCode.TheVariants as code
use Rattle.dg_desc.specs.Known.{placed, label_of, rows_of, row_in, place_in, is_closed}
use Rattle.dg_desc.specs.Faults.{is_named, is_there, missing, value_fault, fields_fault, fault_of}
use Rattle.dg_desc.specs.Lookups.{last_value, fields_named, is_unknown, unknown}

-- ---- groups

abbrev pub Group : Type 0
Group = FieldName × List Field

-- all fields of groups, and the unknown ones
abbrev pub whole : List Group → List Field → List Field
whole [] others = others
whole (g ∷ gs) others = g.1 ++ whole gs others

abbrev before : List Field → List Field → List Field
before xs [] = xs
before xs (y ∷ ys) = xs ++ (y ∷ ys)

abbrev same : FieldName → FieldName → Bool
same n other = bytes_eq (label_of n) (label_of other)

-- the fields of the groups of a name
abbrev pub grouped : FieldName → List Group → List Field
grouped n [] = []
grouped n (g ∷ gs) = cond (same g.0 n) (before g.1 (grouped n gs)) (grouped n gs)

abbrev pub is_known : Message → FieldName → Bool
is_known m n = is_some (row_in (rows_of m) (label_of n))

abbrev pub AreNamed : FieldName → List Field → Type 0
AreNamed n fields = AllByRecursion (λ f. f.name ≡ label_of n) fields

-- a group that may stand in a message
pub record IsGroup (m : Message) (g : Group) : Type 0 where
  pub known : is_known m g.0 ≡ true
  pub named : AreNamed g.0 g.1
  pub fits : fields_fault m g.1 ≡ None

abbrev pub AreUnknown : Message → List Field → Type 0
AreUnknown m fields = AllByRecursion (λ f. is_unknown m f ≡ true) fields

-- groups and unknown fields that may stand in a message
pub record IsWhole (m : Message) (gs : List Group) (others : List Field) : Type 0 where
  pub groups : AllByRecursion (IsGroup m) gs
  pub unknown : AreUnknown m others
  pub others_fit : fields_fault m others ≡ None

-- ---- found by name

either_same : (b : Bool) (fields : List Field) → fields ≡ cond b fields fields
either_same true fields = refl
either_same false fields = refl

cons_either : (b : Bool) (f : Field) (fs : List Field) → cond b (f ∷ cond b fs []) (cond b fs []) ≡ cond b (f ∷ fs) []
cons_either true f fs = refl
cons_either false f fs = refl

named-group : (n other : FieldName) (fields : List Field) → AreNamed n fields → fields_named other fields ≡ cond (same n other) fields []
named-group n other [] h = either_same (same n other) []
named-group n other (f ∷ fs) h =
    ap (λ (name : List ℕ). cond (bytes_eq name (label_of other)) (f ∷ fields_named other fs) (fields_named other fs)) h.0
    ∙ (ap (λ (rest : List Field). cond (same n other) (f ∷ rest) rest) (named-group n other fs h.1)
    ∙ cons_either (same n other) f fs)

some_or_none : (o : Option Row) → is_some o ≡ true → is_none o ≡ true → ⊥
some_or_none None p q = cc
some_or_none (Some r) p q = cc

none_is : (o : Option Row) → is_none o ≡ true → o ≡ None
none_is None p = refl
none_is (Some r) p = cc

not_none : (o : Option Row) → is_some o ≡ true → is_none o ≡ false
not_none None p = cc
not_none (Some r) p = refl

false_is : (b : Bool) → (b ≡ true → ⊥) → b ≡ false
false_is true h = absurd (h refl)
false_is false h = refl

-- an unknown field has no known name
unknown-named : (m : Message) (n : FieldName) (f : Field) → is_known m n ≡ true → is_unknown m f ≡ true → is_named n f ≡ false
unknown-named m n f known h =
    false_is (is_named n f)
    (λ named. some_or_none (row_in (rows_of m) (label_of n)) known
    (subst (λ (name : List ℕ). is_none (row_in (rows_of m) name) ≡ true) ((bytes_eq-Decides f.name (label_of n)).0 named) h))

none_named : (m : Message) (n : FieldName) (fields : List Field) → is_known m n ≡ true → AreUnknown m fields → fields_named n fields ≡ []
none_named m n [] known h = refl
none_named m n (f ∷ fs) known h =
    ap (λ b. cond b (f ∷ fields_named n fs) (fields_named n fs)) (unknown-named m n f known h.0) ∙ none_named m n fs known h.1

put_before : (b : Bool) (xs ys : List Field) → cond b xs [] ++ ys ≡ cond b (before xs ys) ys
put_before true xs [] = append-nil xs
put_before true xs (y ∷ ys) = refl
put_before false xs ys = refl

pub named-whole : (m : Message) (n : FieldName) (gs : List Group) (others : List Field) → IsWhole m gs others → is_known m n ≡ true
    → fields_named n (whole gs others) ≡ grouped n gs
named-whole m n [] others h known = none_named m n others known h.unknown
named-whole m n (g ∷ gs) others h known =
    filter-append (is_named n) g.1 (whole gs others)
    ∙ (ap (λ found. found ++ fields_named n (whole gs others)) (named-group g.0 n g.1 h.groups.0.named)
    ∙ (ap (λ rest. cond (same g.0 n) g.1 [] ++ rest)
    (named-whole m n gs others (record { groups = h.groups.1; unknown = h.unknown; others_fit = h.others_fit }) known)
    ∙ put_before (same g.0 n) g.1 (grouped n gs)))

-- ---- the last of a name

abbrev pub last_of : List Field → Option Value
last_of [] = None
last_of (f ∷ fs) = option_or (last_of fs) (Some f.value)

or_none : (o : Option Value) → option_or o None ≡ o
or_none None = refl
or_none (Some v) = refl

last_here : (b : Bool) (f : Field) (fs : List Field) → option_or (last_of fs) (cond b (Some f.value) None) ≡ last_of (cond b (f ∷ fs) fs)
last_here true f fs = refl
last_here false f fs = or_none (last_of fs)

pub last-named : (n : FieldName) (fields : List Field) → last_value n fields ≡ last_of (fields_named n fields)
last-named n [] = refl
last-named n (f ∷ fs) =
    ap (λ later. option_or later (cond (is_named n f) (Some f.value) None)) (last-named n fs) ∙ last_step (is_named n f)
  where
    last_step : (b : Bool) → option_or (last_of (fields_named n fs)) (cond b (Some f.value) None) ≡ last_of (cond b (f ∷ fields_named n fs) (fields_named n fs))
    last_step b = last_here b f (fields_named n fs)

pub last-whole : (m : Message) (n : FieldName) (gs : List Group) (others : List Field) → IsWhole m gs others → is_known m n ≡ true
    → last_value n (whole gs others) ≡ last_of (grouped n gs)
last-whole m n gs others h known = last-named n (whole gs others) ∙ ap last_of (named-whole m n gs others h known)

-- ---- unknown fields

none_unknown : (m : Message) (n : FieldName) (fields : List Field) → is_known m n ≡ true → AreNamed n fields → unknown m fields ≡ []
none_unknown m n [] known h = refl
none_unknown m n (f ∷ fs) known h =
    ap (λ b. cond b (f ∷ unknown m fs) (unknown m fs))
    (ap (λ (name : List ℕ). is_none (row_in (rows_of m) name)) h.0 ∙ not_none (row_in (rows_of m) (label_of n)) known)
    ∙ none_unknown m n fs known h.1

all_unknown : (m : Message) (fields : List Field) → AreUnknown m fields → unknown m fields ≡ fields
all_unknown m [] h = refl
all_unknown m (f ∷ fs) h =
    ap (λ b. cond b (f ∷ unknown m fs) (unknown m fs)) h.0 ∙ ap (λ (rest : List Field). f ∷ rest) (all_unknown m fs h.1)

pub unknown-whole : (m : Message) (gs : List Group) (others : List Field) → IsWhole m gs others → unknown m (whole gs others) ≡ others
unknown-whole m [] others h = all_unknown m others h.unknown
unknown-whole m (g ∷ gs) others h =
    filter-append (is_unknown m) g.1 (whole gs others)
    ∙ (ap (λ found. found ++ unknown m (whole gs others)) (none_unknown m g.0 g.1 h.groups.0.known h.groups.0.named)
    ∙ unknown-whole m gs others (record { groups = h.groups.1; unknown = h.unknown; others_fit = h.others_fit }))

-- ---- no fault

pub no_faults : (o later : Option DescCode) → option_or o later ≡ None → (o ≡ None) × (later ≡ None)
no_faults None later p = (refl, p)
no_faults (Some c) later p = let e : ⊥ = cc in absurd e

fault-append : (m : Message) (xs ys : List Field) → fields_fault m xs ≡ None → fields_fault m ys ≡ None → fields_fault m (xs ++ ys) ≡ None
fault-append m [] ys p q = q
fault-append m (x ∷ xs) ys p q =
    let parts = no_faults (value_fault (place_in m x.name) x.line x.value) (fields_fault m xs) p in
    ap (λ o. option_or o (fields_fault m (xs ++ ys))) parts.0 ∙ fault-append m xs ys parts.1 q

fits-whole : (m : Message) (gs : List Group) (others : List Field) → IsWhole m gs others → fields_fault m (whole gs others) ≡ None
fits-whole m [] others h = h.others_fit
fits-whole m (g ∷ gs) others h =
    fault-append m g.1 (whole gs others) h.groups.0.fits
    (fits-whole m gs others (record { groups = h.groups.1; unknown = h.unknown; others_fit = h.others_fit }))

abbrev pub some_fields : List Field → Bool
some_fields [] = false
some_fields (f ∷ fs) = true

-- a field of the table that need not be there, or is
abbrev pub is_met : Message → List Group → Row → Bool
is_met m gs r = not r.required || (is_known m r.name && some_fields (grouped r.name gs))

pub there-named : (n : FieldName) (fields : List Field) → is_there n fields ≡ some_fields (fields_named n fields)
there-named n [] = refl
there-named n (f ∷ fs) = there_step (is_named n f) (there-named n fs)
  where
    there_step : (b : Bool) → is_there n fs ≡ some_fields (fields_named n fs)
        → (b || is_there n fs) ≡ some_fields (cond b (f ∷ fields_named n fs) (fields_named n fs))
    there_step true rest = refl
    there_step false rest = rest

not_missing : (required : Bool) (m : Message) (n : FieldName) (gs : List Group) (others : List Field) → IsWhole m gs others
    → (not required || (is_known m n && some_fields (grouped n gs))) ≡ true
    → (required && not (is_there n (whole gs others))) ≡ false
not_missing false m n gs others h met = refl
not_missing true m n gs others h met =
    let parts = and_parts (is_known m n) (some_fields (grouped n gs)) met in
    ap not (there-named n (whole gs others) ∙ ap some_fields (named-whole m n gs others h parts.0) ∙ parts.1)

missing-whole : (m : Message) (gs : List Group) (others : List Field) (line : ℕ) → IsWhole m gs others
    → (rows : List Row) → list_all (is_met m gs) rows ≡ true → missing rows line (whole gs others) ≡ None
missing-whole m gs others line h [] met = refl
missing-whole m gs others line h (r ∷ rs) met =
    let parts = and_parts (is_met m gs r) (list_all (is_met m gs) rs) met in
    ap (λ b. cond b (Some (code.Missing line r.name)) (missing rs line (whole gs others))) (not_missing r.required m r.name gs others h parts.0)
    ∙ missing-whole m gs others line h rs parts.1

pub fault-whole : (m : Message) (gs : List Group) (others : List Field) → IsWhole m gs others
    → list_all (is_met m gs) (rows_of m) ≡ true → (line : ℕ) → fault_of m line (whole gs others) ≡ None
fault-whole m gs others h met line =
    ap (λ o. option_or o (missing (rows_of m) line (whole gs others))) (fits-whole m gs others h)
    ∙ missing-whole m gs others line h (rows_of m) met

-- ---- the unknown fields of a message

any_fits : (line : ℕ) (v : Value) → value_fault (placed None false) line v ≡ None
any_fits line (Bare word) = refl
any_fits line (Quoted text) = refl
any_fits line (Message' shape fields) = refl

unknown_fit : (m : Message) (fields : List Field) → is_closed m ≡ false → AreUnknown m fields → fields_fault m fields ≡ None
unknown_fit m [] open_ h = refl
unknown_fit m (f ∷ fs) open_ h =
    let place : place_in m f.name ≡ placed None false = ap₂ placed (none_is (row_in (rows_of m) f.name) h.0) open_ in
    ap (λ p. option_or (value_fault p f.line f.value) (fields_fault m fs)) place
    ∙ (ap (λ o. option_or o (fields_fault m fs)) (any_fits f.line f.value) ∙ unknown_fit m fs open_ h.1)

pub whole_of : (m : Message) (gs : List Group) (others : List Field) → is_closed m ≡ false → AreUnknown m others
    → AllByRecursion (IsGroup m) gs → IsWhole m gs others
whole_of m gs others open_ h groups = record { groups = groups; unknown = h; others_fit = unknown_fit m others open_ h }

pub are_unknown : (m : Message) (fields : List Field) → AreUnknown m (unknown m fields)
are_unknown m fields = recursion_from_All (λ (f : Field). is_unknown m f ≡ true) (unknown m fields) (filter_passes (is_unknown m) fields)
