-- What is found in two trees that are the same but for lines is the same but for lines.
use Rattle.std.proofs.Common.{◌≡◌, ℕ, Bool, true, false, cond, List, [], ◌∷◌, ◌++◌, ℤ, pos, Option, Some, None, option_map, refl, ap, sym, subst, subst₂, ◌∙◌, bytes_eq, is_none}
use Rattle.std.specs.List.{AllZip, filter}
use Rattle.std.specs.Option.{option_or}
use Rattle.dg_base.specs.declared.datum.V3.{V3}
use Rattle.dg_base.specs.declared.datum.V4.{V4}
use Rattle.dg_decimal.specs.Reading.{reading}
use Rattle.dg_ptext.specs.declared.tree.Field.{Field}
use Rattle.dg_ptext.specs.declared.tree.Value.{Value}
use Rattle.dg_ptext.specs.declared.tree.Value.TheVariants as value
use Rattle.dg_ptext.specs.Same.{SameFields, SameValue}
use Rattle.dg_ptext.specs.Same.SameFields.{none, one_more}
use Rattle.dg_ptext.specs.Same.SameValue.{bare, quoted, message}
use Rattle.dg_desc.specs.declared.known.Message.{Message}
use Rattle.dg_desc.specs.declared.known.FieldName.{FieldName}
use Rattle.dg_desc.specs.declared.known.FieldName.TheVariants as name
use Rattle.dg_desc.specs.Known.{label_of, rows_of, row_in}
use Rattle.dg_desc.specs.Words.{type_named, switch_named}
use Rattle.dg_desc.specs.Lookups.{last_value, fields_named, unknown, fields_in, text_in, text_or_none, text_of, word_in, read_or, number_or, number_of, type_or, type_in, switch_or, switch_in, one, vector_of, quaternion_of, position_of, rotation_of, evenly, scale_of, scale3_of}
use Rattle.dg_desc.proofs.Groups.{last_of, last-named}
use Rattle.dg_desc.proofs.Numbers.{inside}

abbrev pub SameField : Field → Field → Type 0
SameField f g = (f.name ≡ g.name) × SameValue f.value g.value

abbrev pub AreSame : List Field → List Field → Type 0
AreSame fields others = AllZip SameField fields others

pub are_same : (xs ys : List Field) → SameFields xs ys → AreSame xs ys
are_same xs ys (none _ _ e f) = subst₂ AreSame (sym e) (sym f) tt
are_same xs ys (one_more _ _ label line other_line v w more others same rest e f) =
    subst₂ AreSame (sym e) (sym f) ((refl, same), are_same more others rest)

pub from_same : (xs ys : List Field) → AreSame xs ys → SameFields xs ys
from_same [] [] h = none [] [] refl refl
from_same [] (y ∷ ys) h = absurd h
from_same (x ∷ xs) [] h = absurd h
from_same (x ∷ xs) (y ∷ ys) h =
    one_more (x ∷ xs) (y ∷ ys) x.name x.line y.line x.value y.value xs ys h.0.1 (from_same xs ys h.1) refl
    (ap (λ (label : List ℕ). record { name = label; line = y.line; value = y.value } ∷ ys) (sym h.0.0))

pub same_behind : (xs ys us vs : List Field) → AreSame xs ys → AreSame us vs → AreSame (xs ++ us) (ys ++ vs)
same_behind [] [] us vs h k = k
same_behind [] (y ∷ ys) us vs h k = absurd h
same_behind (x ∷ xs) [] us vs h k = absurd h
same_behind (x ∷ xs) (y ∷ ys) us vs h k = (h.0, same_behind xs ys us vs h.1 k)

-- ---- fields by their name

kept_same : (test : List ℕ → Bool) (xs ys : List Field) → AreSame xs ys → AreSame (filter (λ f. test f.name) xs) (filter (λ f. test f.name) ys)
kept_same test [] [] h = tt
kept_same test [] (y ∷ ys) h = absurd h
kept_same test (x ∷ xs) [] h = absurd h
kept_same test (x ∷ xs) (y ∷ ys) h =
    subst (λ (label : List ℕ). AreSame (filter (λ f. test f.name) (x ∷ xs)) (cond (test label) (y ∷ filter (λ f. test f.name) ys) (filter (λ f. test f.name) ys))) h.0.0
    (by_test (test x.name) h.0 (kept_same test xs ys h.1))
  where
    by_test : (b : Bool) → SameField x y → AreSame (filter (λ f. test f.name) xs) (filter (λ f. test f.name) ys)
        → AreSame (cond b (x ∷ filter (λ f. test f.name) xs) (filter (λ f. test f.name) xs)) (cond b (y ∷ filter (λ f. test f.name) ys) (filter (λ f. test f.name) ys))
    by_test true first rest = (first, rest)
    by_test false first rest = rest

pub named_same : (n : FieldName) (xs ys : List Field) → AreSame xs ys → AreSame (fields_named n xs) (fields_named n ys)
named_same n xs ys h = kept_same (λ label. bytes_eq label (label_of n)) xs ys h

pub unknown_same : (m : Message) (xs ys : List Field) → AreSame xs ys → AreSame (unknown m xs) (unknown m ys)
unknown_same m xs ys h = kept_same (λ label. is_none (row_in (rows_of m) label)) xs ys h

abbrev MaySame : Option Value → Option Value → Type 0
MaySame None None = Unit {0}
MaySame (Some v) (Some w) = SameValue v w
MaySame _ _ = ⊥

or_same : (a b : Option Value) (v w : Value) → MaySame a b → SameValue v w → MaySame (option_or a (Some v)) (option_or b (Some w))
or_same None None v w h k = k
or_same (Some x) (Some y) v w h k = h
or_same None (Some y) v w h k = absurd h
or_same (Some x) None v w h k = absurd h

last_same : (xs ys : List Field) → AreSame xs ys → MaySame (last_of xs) (last_of ys)
last_same [] [] h = tt
last_same [] (y ∷ ys) h = absurd h
last_same (x ∷ xs) [] h = absurd h
last_same (x ∷ xs) (y ∷ ys) h = or_same (last_of xs) (last_of ys) x.value y.value (last_same xs ys h.1) h.0.1

found_same : (n : FieldName) (xs ys : List Field) → AreSame xs ys → MaySame (last_value n xs) (last_value n ys)
found_same n xs ys h =
    subst₂ MaySame (sym (last-named n xs)) (sym (last-named n ys)) (last_same (fields_named n xs) (fields_named n ys) (named_same n xs ys h))

-- ---- values

-- what doesn't look into messages
value_same : {X : Type 0} (look : Value → X) → ((fields others : List Field) → look (value.Message fields) ≡ look (value.Message others))
    → (v w : Value) → SameValue v w → look v ≡ look w
value_same look messages v w (bare _ _ word e f) = ap look e ∙ sym (ap look f)
value_same look messages v w (quoted _ _ text e f) = ap look e ∙ sym (ap look f)
value_same look messages v w (message _ _ fields others same e f) = ap look e ∙ (messages fields others ∙ sym (ap look f))

pub text_same : (v w : Value) → SameValue v w → text_in v ≡ text_in w
text_same = value_same text_in (λ _ _. refl)

word_same : (v w : Value) → SameValue v w → word_in v ≡ word_in w
word_same = value_same word_in (λ _ _. refl)

pub inner_same : (v w : Value) → SameValue v w → AreSame (fields_in v) (fields_in w)
inner_same v w (bare _ _ word e f) = subst₂ AreSame (sym (ap fields_in e)) (sym (ap fields_in f)) tt
inner_same v w (quoted _ _ text e f) = subst₂ AreSame (sym (ap fields_in e)) (sym (ap fields_in f)) tt
inner_same v w (message _ _ fields others same e f) =
    subst₂ AreSame (sym (ap fields_in e ∙ inside fields)) (sym (ap fields_in f ∙ inside others)) (are_same fields others same)

by_found : {X : Type 0} (look : Option Value → X) → ((v w : Value) → SameValue v w → look (Some v) ≡ look (Some w))
    → (a b : Option Value) → MaySame a b → look a ≡ look b
by_found look each None None h = refl
by_found look each (Some v) (Some w) h = each v w h
by_found look each None (Some w) h = absurd h
by_found look each (Some v) None h = absurd h

pub texts_same : (n : FieldName) (xs ys : List Field) → AreSame xs ys → text_of n xs ≡ text_of n ys
texts_same n xs ys h = by_found text_or_none text_same (last_value n xs) (last_value n ys) (found_same n xs ys h)

pub types_same : (n : FieldName) (xs ys : List Field) → AreSame xs ys → type_in (last_value n xs) ≡ type_in (last_value n ys)
types_same n xs ys h =
    by_found type_in (λ v w same. ap (λ word. type_or (type_named word)) (word_same v w same)) (last_value n xs) (last_value n ys) (found_same n xs ys h)

pub switches_same : (n : FieldName) (xs ys : List Field) → AreSame xs ys → switch_in (last_value n xs) ≡ switch_in (last_value n ys)
switches_same n xs ys h =
    by_found switch_in (λ v w same. ap (λ word. switch_or (switch_named word)) (word_same v w same)) (last_value n xs) (last_value n ys) (found_same n xs ys h)

some_number_same : (other : ℤ) (v w : Value) → SameValue v w → number_or other (Some v) ≡ number_or other (Some w)
some_number_same other v w same = ap (λ word. read_or other (reading word)) (word_same v w same)

number_same : (other : ℤ) (n : FieldName) (xs ys : List Field) → AreSame xs ys → number_of other n xs ≡ number_of other n ys
number_same other n xs ys h =
    by_found (number_or other) (some_number_same other) (last_value n xs) (last_value n ys) (found_same n xs ys h)

vector_same : (other : ℤ) (xs ys : List Field) → AreSame xs ys → vector_of other xs ≡ vector_of other ys
vector_same other xs ys h = λ i. record {
  x = number_same other name.X xs ys h i;
  y = number_same other name.Y xs ys h i;
  z = number_same other name.Z xs ys h i;
}

quaternion_same : (xs ys : List Field) → AreSame xs ys → quaternion_of xs ≡ quaternion_of ys
quaternion_same xs ys h = λ i. record {
  x = number_same (pos 0) name.X xs ys h i;
  y = number_same (pos 0) name.Y xs ys h i;
  z = number_same (pos 0) name.Z xs ys h i;
  w = number_same one name.W xs ys h i;
}

pub positions_same : (xs ys : List Field) → AreSame xs ys → position_of xs ≡ position_of ys
positions_same xs ys h =
    by_found (option_map (λ v. vector_of (pos 0) (fields_in v)))
    (λ v w same. ap (λ (p : V3). Some p) (vector_same (pos 0) (fields_in v) (fields_in w) (inner_same v w same)))
    (last_value name.Position xs) (last_value name.Position ys) (found_same name.Position xs ys h)

pub rotations_same : (xs ys : List Field) → AreSame xs ys → rotation_of xs ≡ rotation_of ys
rotations_same xs ys h =
    by_found (option_map (λ v. quaternion_of (fields_in v)))
    (λ v w same. ap (λ (q : V4). Some q) (quaternion_same (fields_in v) (fields_in w) (inner_same v w same)))
    (last_value name.Rotation xs) (last_value name.Rotation ys) (found_same name.Rotation xs ys h)

scale_same : (a b c d : Option Value) → MaySame a b → MaySame c d → scale_of a c ≡ scale_of b d
scale_same None None c d h k =
    by_found (scale_of None) (λ v w same. ap (λ s. Some (evenly s)) (some_number_same one v w same)) c d k
scale_same (Some v) (Some w) c d h k = ap (λ (p : V3). Some p) (vector_same one (fields_in v) (fields_in w) (inner_same v w h))
scale_same None (Some w) c d h k = absurd h
scale_same (Some v) None c d h k = absurd h

pub scales_same : (xs ys : List Field) → AreSame xs ys → scale3_of xs ≡ scale3_of ys
scales_same xs ys h =
    scale_same (last_value name.Scale3 xs) (last_value name.Scale3 ys) (last_value name.Scale xs) (last_value name.Scale ys)
    (found_same name.Scale3 xs ys h) (found_same name.Scale xs ys h)
