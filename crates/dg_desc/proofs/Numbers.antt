-- Fields that stand alone, and numbers: what is printed of them may stand there, and reads as them.
use Rattle.std.proofs.Common.{◌≡◌, ℕ, ◌^◌, Bool, true, false, cond, List, [], ◌∷◌, ℤ, pos, negsuc, FitsSigned, w64, Option, Some, None, Ok, Err, if◌then◌else◌, refl, ap, sym, ◌∙◌, ltb-true, arith}
use Rattle.std.specs.Ordering.{int_eq}
use Rattle.std.specs.Option.{option_or}
use Rattle.std.proofs.lemmas.Bool.Decides.{Decides-int_eq}
use Rattle.dg_decimal.specs.declared.refusal.DecimalRefusal.TheVariants.{Range}
use Rattle.dg_decimal.specs.Form.{Number}
use Rattle.dg_decimal.specs.Value.{fits, billionths}
use Rattle.dg_decimal.specs.Reading.{answer, number_in}
use Rattle.dg_decimal.specs.Canonical.{canonical}
use Rattle.dg_decimal.proofs.ReadBack.{reading-canonical}
use Rattle.dg_ptext.specs.declared.tree.Field.{Field}
use Rattle.dg_ptext.specs.declared.tree.Value.{Value, items_hidden-the_row-Field-0}
use Rattle.dg_ptext.specs.declared.tree.Value.TheVariants as value
use Rattle.dg_desc.specs.declared.known.Message.{Message}
use Rattle.dg_desc.specs.declared.known.FieldName.{FieldName}
use Rattle.dg_desc.specs.declared.known.Form.TheVariants as form
use Rattle.dg_desc.specs.Known.{label_of, place_in}
use Rattle.dg_desc.specs.Words.{is_read}
use Rattle.dg_desc.specs.Faults.{fits_bare, fits_quoted, unless, fault_of}
use Rattle.dg_desc.specs.Lookups.{fields_in, read_or, number_or, word_in, one}
use Rattle.dg_desc.specs.Trees.{bare, quoted, message, differing}
use Rattle.dg_desc.proofs.Messages.{fault-Inner}
use Rattle.dg_desc.proofs.Groups.{is_known, IsGroup, last_of}

-- ---- a field alone

pub inside : (fields : List Field) → fields_in (value.Message fields) ≡ fields
inside fields = items_hidden-the_row-Field-0 fields

-- a word, but where it is the default
pub word_group : (m : Message) (n : FieldName) (word : List ℕ) → is_known m n ≡ true
    → fits_bare (place_in m (label_of n)).form word ≡ true → (b : Bool) → IsGroup m (n, cond b [] (bare n word ∷ []))
word_group m n word known fits true = record { known = known; named = tt; fits = refl }
word_group m n word known fits false = record {
  known = known;
  named = (refl, tt);
  fits = ap (λ b. option_or (unless b 0 (place_in m (label_of n))) None) fits;
}

pub text_group : (m : Message) (n : FieldName) (text : List ℕ) → is_known m n ≡ true
    → fits_quoted (place_in m (label_of n)).form text ≡ true → IsGroup m (n, quoted n text ∷ [])
text_group m n text known fits = record {
  known = known;
  named = (refl, tt);
  fits = ap (λ b. option_or (unless b 0 (place_in m (label_of n))) None) fits;
}

pub message_group : (m inner : Message) (n : FieldName) (fields : List Field) → is_known m n ≡ true
    → (place_in m (label_of n)).form ≡ form.Inner inner → fault_of inner 0 fields ≡ None
    → (b : Bool) → IsGroup m (n, cond b [] (message n fields ∷ []))
message_group m inner n fields known is h true = record { known = known; named = tt; fits = refl }
message_group m inner n fields known is h false = record {
  known = known;
  named = (refl, tt);
  fits = ap (λ o. option_or o None) (fault-Inner (place_in m (label_of n)) inner 0 fields is ∙ h);
}

-- ---- numbers

fits_signed : (z : ℤ) → fits z ≡ true → FitsSigned w64 z
fits_signed (pos n) h = record { sfits = ltb-true n (2 ^ 63) h }
fits_signed (negsuc n) h = record { sfits = ltb-true n (2 ^ 63) h }

ranged : (other z : ℤ) → FitsSigned w64 other → (b : Bool) → fits z ≡ b → FitsSigned w64 (read_or other (if b then Ok z else Err Range))
ranged other z h true e = fits_signed z e
ranged other z h false e = h

answered : (other : ℤ) → FitsSigned w64 other → (o : Option Number) → FitsSigned w64 (read_or other (answer o))
answered other h None = h
answered other h (Some n) = ranged other (billionths n) h (fits (billionths n)) refl

-- what is read of a number is in range
pub number_fits : (other : ℤ) → FitsSigned w64 other → (v : Option Value) → FitsSigned w64 (number_or other v)
number_fits other h None = h
number_fits other h (Some v) = answered other h (number_in (word_in v))

pub number_group : (m : Message) (n : FieldName) (other z : ℤ) → is_known m n ≡ true → (place_in m (label_of n)).form ≡ form.Decimal
    → FitsSigned w64 z → IsGroup m (n, differing n other z)
number_group m n other z known is h =
    word_group m n (canonical z) known (ap (λ f. fits_bare f (canonical z)) is ∙ ap is_read (reading-canonical z h)) (int_eq z other)

pub number_again : (n : FieldName) (other z : ℤ) → FitsSigned w64 z → number_or other (last_of (differing n other z)) ≡ z
number_again n other z h = by_test (int_eq z other) refl
  where
    by_test : (b : Bool) → int_eq z other ≡ b → number_or other (last_of (cond b [] (bare n (canonical z) ∷ []))) ≡ z
    by_test true e = sym ((Decides-int_eq z other).0 e)
    by_test false e = ap (read_or other) (reading-canonical z h)

pub zero_fits : FitsSigned w64 (pos 0)
zero_fits = record { sfits = omega arith }

pub one_fits : FitsSigned w64 one
one_fits = record { sfits = omega arith }
