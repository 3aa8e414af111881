-- Rows that pass the test make tables that keep the laws of schemas.
use Rattle.std.proofs.Common.{◌≡◌, ◌≢◌, ◌<◌, ◌⊎◌, inl, inr, ℕ, zero, suc, Bool, true, false, cond, ◌&&◌, eqb, List, [], ◌∷◌, Option, Some, None, Contains, map, is_some, refl, sym, ap, ◌∙◌, subst, ⊎_elim, true≢false, arith, rules}
use Rattle.std.specs.Prelude.{nat_lt}
use Rattle.std.specs.List.{list_all}
use Rattle.std.proofs.lemmas.Bool.{eqb-true, eq-eqb}
use Rattle.dg_base.specs.declared.ids.Kind.{Kind}
use Rattle.dg_base.specs.declared.ids.Label.{Label}
use Rattle.dg_base.specs.declared.ids.TheConstants.{FIRST_OPEN}
use Rattle.dg_base.specs.declared.schema.Role.{Role}
use Rattle.dg_base.specs.declared.schema.Role.TheVariants as role
use Rattle.dg_base.specs.declared.schema.ArgSpec.{ArgSpec}
use Rattle.dg_base.specs.declared.schema.ArgSpec.TheVariants as arg
use Rattle.dg_base.specs.declared.schema.ArgVal.{ArgVal}
use Rattle.dg_base.specs.declared.schema.Made.{Made}
use Rattle.dg_base.specs.Role.{has_type}
use Rattle.dg_base.specs.Tables.{AreTables, arg_fits}
use Rattle.dg_rows.specs.declared.row.Preset.{Preset}
use Rattle.dg_rows.specs.declared.row.Preset.TheVariants as preset
use Rattle.dg_rows.specs.declared.row.Entry.TheVariants.{Property, Single, Substituted, Array, Owned, OwnedArray, Output, Cached}
use Rattle.dg_rows.specs.Rows.{PlainEntry, PlainRow, PlainKind, type_of, datum_of, entry_at, role_of, args_of, preset_of, substitute_of, kind_at, rows_of, rows_in, labels_of, labels_in, tables_of}
use Rattle.dg_rows.specs.Fit.{are_labels, is_low, are_in_order, names, are_named, is_fit, are_fit}

both : (a b : Bool) → (a && b) ≡ true → (a ≡ true) × (b ≡ true)
both true b e = (refl, e)
both false b e = absurd (true≢false (sym e))

-- the labels and rows of a kind pass the test, where those of each kind in the table do
abbrev IsFitKind : Option PlainKind → Type 0
IsFitKind kind = is_fit (labels_of kind) (rows_of kind) ≡ true

fit_in_at : (b : Bool) (x : PlainKind) (rest : Option PlainKind) → IsFitKind (Some x) → IsFitKind rest → IsFitKind (cond b (Some x) rest)
fit_in_at true x rest here later = here
fit_in_at false x rest here later = later

fit_in : (xs : List PlainKind) (k : Kind) → are_fit xs ≡ true → IsFitKind (kind_at xs k)
fit_in [] k e = refl
fit_in (x ∷ xs) k e =
    let parts = both (is_fit x.labels x.rows) (are_fit xs) e in
    fit_in_at (eqb k.0 x.kind.0) x (kind_at xs k) parts.0 (fit_in xs k parts.1)

-- an element of a list is the first one or one of the others
of_cons : {X : Type 0} (x : X) (xs : List X) (l : X) → Contains (x ∷ xs) l → (x ≡ l) ⊎ Contains xs l
of_cons x xs l (zero, lt, is) = inl is
of_cons x xs l (suc i, lt, is) = inr (i, omega arith, is)

of_nil : {X : Type 0} (l : X) → Contains [] l → ⊥
of_nil l (i, lt, is) = omega arith

first_at : {X : Type 0} (x : X) (xs : List X) (l : X) → x ≡ l → Contains (x ∷ xs) l
first_at x xs l is = (zero, omega arith, is)

later_at : {X : Type 0} (x : X) (xs : List X) (l : X) → Contains xs l → Contains (x ∷ xs) l
later_at x xs l (i, lt, is) = (suc i, omega arith, is)

same_label_is : (a b : Label) → eqb a.0 b.0 ≡ true → b ≡ a
same_label_is a b is = ap (λ m. let label : Label = record { 0 = m } in label) (sym (eqb-true a.0 b.0 is))

abbrev row_labels : List PlainRow → List Label
row_labels xs = map (λ x. x.0) xs

-- labels that are those of the rows, one by one, are the rows' labels
the_labels : (ls : List Label) (xs : List PlainRow) → are_labels ls xs ≡ true → ls ≡ row_labels xs
the_labels [] [] e = refl
the_labels [] (x ∷ xs) e = absurd (true≢false (sym e))
the_labels (l ∷ ls) [] e = absurd (true≢false (sym e))
the_labels (l ∷ ls) (x ∷ xs) e =
    let parts = both (eqb l.0 x.0.0) (are_labels ls xs) e in
    ap (λ m. m ∷ ls) (sym (same_label_is l x.0 parts.0)) ∙ ap (λ ms. x.0 ∷ ms) (the_labels ls xs parts.1)

-- a label of the rows has a meaning
there_at : (b : Bool) (x : PlainRow) (xs : List PlainRow) (l : Label) → is_some (entry_at xs l) ≡ true → is_some (cond b (Some x.1) (entry_at xs l)) ≡ true
there_at true x xs l e = refl
there_at false x xs l e = e

here_at : (x : PlainRow) (xs : List PlainRow) (l : Label) → x.0 ≡ l → is_some (entry_at (x ∷ xs) l) ≡ true
here_at x xs l is =
    subst (λ m. is_some (entry_at (x ∷ xs) m) ≡ true) is
    (ap (λ b. is_some (cond b (Some x.1) (entry_at xs x.0))) (eq-eqb x.0.0 x.0.0 refl))

there : (xs : List PlainRow) (l : Label) → Contains (row_labels xs) l → is_some (entry_at xs l) ≡ true
there [] l h = absurd (of_nil l h)
there (x ∷ xs) l h =
    ⊎_elim (here_at x xs l) (λ later. there_at (eqb l.0 x.0.0) x xs l (there xs l later)) (of_cons x.0 (row_labels xs) l h)

-- and a label with a meaning is one of the rows
one_of_at : (b : Bool) (x : PlainRow) (xs : List PlainRow) (l : Label) → eqb l.0 x.0.0 ≡ b → (is_some (entry_at xs l) ≡ true → Contains (row_labels xs) l) →
    is_some (cond b (Some x.1) (entry_at xs l)) ≡ true → Contains (row_labels (x ∷ xs)) l
one_of_at true x xs l is later e = first_at x.0 (row_labels xs) l (same_label_is l x.0 is)
one_of_at false x xs l is later e = later_at x.0 (row_labels xs) l (later e)

one_of : (xs : List PlainRow) (l : Label) → is_some (entry_at xs l) ≡ true → Contains (row_labels xs) l
one_of [] l e = absurd (true≢false (sym e))
one_of (x ∷ xs) l e = one_of_at (eqb l.0 x.0.0) x xs l refl (one_of xs l) e

-- labels are low
low_below : (n : ℕ) → nat_lt n FIRST_OPEN ≡ true → n < FIRST_OPEN
low_below n e = search (rules)

low : (ls : List Label) (l : Label) → list_all is_low ls ≡ true → Contains ls l → l.0 < FIRST_OPEN
low [] l e h = absurd (of_nil l h)
low (m ∷ ls) l e h =
    let parts = both (is_low m) (list_all is_low ls) e in
    ⊎_elim (λ is. subst (λ n. n.0 < FIRST_OPEN) is (low_below m.0 parts.0)) (low ls l parts.1) (of_cons m ls l h)

-- a label has a role exactly where it has a meaning
abbrev is_nothing : Role → Bool
is_nothing role.Nothing = true
is_nothing _ = false

something_at : (m : PlainEntry) → is_nothing (role_of (Some m)) ≡ false
something_at (Property p) = refl
something_at (Single t) = refl
something_at (Substituted p) = refl
something_at (Array t) = refl
something_at (Owned t) = refl
something_at (OwnedArray t) = refl
something_at (Output t args) = refl
something_at (Cached t args) = refl

something : (m : Option PlainEntry) → is_some m ≡ true → role_of m ≢ role.Nothing
something None e is = true≢false (sym e)
something (Some m) e is = true≢false (sym (ap is_nothing is) ∙ something_at m)

meant : (m : Option PlainEntry) → role_of m ≢ role.Nothing → is_some m ≡ true
meant None h = absurd (h refl)
meant (Some m) h = refl

-- a preset is of the type that it says
fits_itself : (p : Preset) → has_type (type_of p) (datum_of p) ≡ true
fits_itself (preset.Number n) = refl
fits_itself preset.Text = refl
fits_itself (preset.Flag b) = refl
fits_itself (preset.Vec3 v) = refl
fits_itself (preset.Quat v) = refl

-- what each role says of its label, as a test
abbrev preset_test : Option PlainEntry → Role → Bool
preset_test m (role.Property t) = has_type t (preset_of m)
preset_test m _ = true

preset_passes : (m : Option PlainEntry) → preset_test m (role_of m) ≡ true
preset_passes None = refl
preset_passes (Some (Property p)) = fits_itself p
preset_passes (Some (Single t)) = refl
preset_passes (Some (Substituted p)) = refl
preset_passes (Some (Array t)) = refl
preset_passes (Some (Owned t)) = refl
preset_passes (Some (OwnedArray t)) = refl
preset_passes (Some (Output t args)) = refl
preset_passes (Some (Cached t args)) = refl

abbrev substitute_test : Option PlainEntry → Role → Bool
substitute_test m (role.Input t array cascade true) = has_type t (substitute_of m)
substitute_test m _ = true

substitute_passes : (m : Option PlainEntry) → substitute_test m (role_of m) ≡ true
substitute_passes None = refl
substitute_passes (Some (Property p)) = refl
substitute_passes (Some (Single t)) = refl
substitute_passes (Some (Substituted p)) = fits_itself p
substitute_passes (Some (Array t)) = refl
substitute_passes (Some (Owned t)) = refl
substitute_passes (Some (OwnedArray t)) = refl
substitute_passes (Some (Output t args)) = refl
substitute_passes (Some (Cached t args)) = refl

abbrev array_test : Role → Bool
array_test (role.Input t true cascade true) = false
array_test _ = true

array_passes : (m : Option PlainEntry) → array_test (role_of m) ≡ true
array_passes None = refl
array_passes (Some (Property p)) = refl
array_passes (Some (Single t)) = refl
array_passes (Some (Substituted p)) = refl
array_passes (Some (Array t)) = refl
array_passes (Some (Owned t)) = refl
array_passes (Some (OwnedArray t)) = refl
array_passes (Some (Output t args)) = refl
array_passes (Some (Cached t args)) = refl

-- an argument names what the rows have
arg_fits_kind : (kinds : List PlainKind) (produce : Kind → Label → List ArgVal → Made) (k : Kind) (a : ArgSpec) →
    names (rows_in kinds k) a ≡ true → arg_fits (tables_of kinds produce) k a ≡ true
arg_fits_kind kinds produce k (arg.Own l) e = e
arg_fits_kind kinds produce k (arg.Input i) e = e
arg_fits_kind kinds produce k arg.Open e = refl

passes : {X : Type 0} (p : X → Bool) (xs : List X) (x : X) → list_all p xs ≡ true → Contains xs x → p x ≡ true
passes p [] x e h = absurd (of_nil x h)
passes p (y ∷ ys) x e h =
    let parts = both (p y) (list_all p ys) e in
    ⊎_elim (λ is. ap p (sym is) ∙ parts.0) (passes p ys x parts.1) (of_cons y ys x h)

-- the arguments of a label are those of one of the rows
named_at : (b : Bool) (all : List PlainRow) (x : PlainRow) (xs : List PlainRow) (l : Label) → are_named all x ≡ true → list_all (names all) (args_of (entry_at xs l)) ≡ true →
    list_all (names all) (args_of (cond b (Some x.1) (entry_at xs l))) ≡ true
named_at true all x xs l here later = here
named_at false all x xs l here later = later

named : (all xs : List PlainRow) (l : Label) → list_all (are_named all) xs ≡ true → list_all (names all) (args_of (entry_at xs l)) ≡ true
named all [] l e = refl
named all (x ∷ xs) l e =
    let parts = both (are_named all x) (list_all (are_named all) xs) e in
    named_at (eqb l.0 x.0.0) all x xs l parts.0 (named all xs l parts.1)

-- what `is_fit` says of one kind's labels and rows
record IsFit (ls : List Label) (xs : List PlainRow) : Type 0 where
  pub labels : ls ≡ row_labels xs
  pub low : list_all is_low ls ≡ true
  pub in_order : are_in_order ls ≡ true
  pub named : list_all (are_named xs) xs ≡ true

parts_of : (ls : List Label) (xs : List PlainRow) → is_fit ls xs ≡ true → IsFit ls xs
parts_of ls xs e =
    let one = both (are_labels ls xs) (list_all is_low ls && (are_in_order ls && list_all (are_named xs) xs)) e in
    let two = both (list_all is_low ls) (are_in_order ls && list_all (are_named xs) xs) one.1 in
    let three = both (are_in_order ls) (list_all (are_named xs) xs) two.1 in
    record { labels = the_labels ls xs one.0; low = two.0; in_order = three.0; named = three.1 }

fit_at : (kinds : List PlainKind) → are_fit kinds ≡ true → (k : Kind) → IsFit (labels_in kinds k) (rows_in kinds k)
fit_at kinds e k = parts_of (labels_in kinds k) (rows_in kinds k) (fit_in kinds k e)

pub rows_laws : (kinds : List PlainKind) (produce : Kind → Label → List ArgVal → Made) → are_fit kinds ≡ true → AreTables (tables_of kinds produce)
rows_laws kinds produce e = record {
  low = λ k l h. low (labels_in kinds k) l (fit_at kinds e k).low h;
  rise = λ k. (fit_at kinds e k).in_order;
  known = λ k l h. something (entry_at (rows_in kinds k) l) (there (rows_in kinds k) l (subst (λ ls. Contains ls l) (fit_at kinds e k).labels h));
  others = λ k l h. subst (λ ls. Contains ls l) (sym (fit_at kinds e k).labels) (one_of (rows_in kinds k) l (meant (entry_at (rows_in kinds k) l) h));
  preset_fits = λ k l t is. sym (ap (preset_test (entry_at (rows_in kinds k) l)) is) ∙ preset_passes (entry_at (rows_in kinds k) l);
  substitute_fits = λ k l t array cascade is. sym (ap (substitute_test (entry_at (rows_in kinds k) l)) is) ∙ substitute_passes (entry_at (rows_in kinds k) l);
  no_array_substitute = λ k l t cascade is. true≢false (sym (array_passes (entry_at (rows_in kinds k) l)) ∙ ap array_test is);
  args_fit = λ k l a h.
      arg_fits_kind kinds produce k a
      (passes (names (rows_in kinds k)) (args_of (entry_at (rows_in kinds k) l)) a
      (named (rows_in kinds k) (rows_in kinds k) l (fit_at kinds e k).named) h);
}
