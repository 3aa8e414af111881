-- The productions and the function that takes a text apart agree.
use Rattle.std.proofs.Common.{◌≡◌, ◌≢◌, ◌⊎◌, ℕ, ◌+◌, ◌≤◌, ◌<◌, Bool, true, false, ◌&&◌, ◌||◌, List, [], ◌∷◌, ◌++◌, length, take, drop, get_or, Option, Some, None, refl, sym, ◌∙◌, ap, subst, inl, inr, ⊎_elim, arith, take-append-drop, append-nil}
use Rattle.std.proofs.lemmas.Bool.{ne_eqb, eqb-true, lt-ltb, ltb-true, and_from, and_parts, or_right, or_cases, cond-true, cond-false, cond_both, cases_Bool}
use Rattle.std.proofs.lemmas.List.{take_at, drop_at}
use Rattle.std.proofs.lemmas.Str.Parse.{digit_from_value}
use Rattle.std.specs.Char.{digit_value, is_ascii_digit}
use Rattle.std.specs.List.{list_all, prefix_len}
use Rattle.std.specs.Prelude.{◌==◌, nat_lt}
use Rattle.std.specs.Str.Parse.{AllDigits}
use Rattle.dg_decimal.specs.Form.{Number, IsSign, IsFraction, IsPower, IsExponent, Spells, point, plus, minus, small_e, capital_e}
use Rattle.dg_decimal.specs.Reading.{begins_negative, after_sign, digits_in, after_digits, begins_with_point, fraction_in, after_fraction, is_exponent, is_exponent_or_empty, whole_in, after_whole, parts_in, is_number, number_in}
use Rattle.std.specs.Prelude.{Result, Ok, Err, ℤ, ◌↔◌}
use Rattle.dg_decimal.specs.declared.refusal.DecimalRefusal.{DecimalRefusal}
use Rattle.dg_decimal.specs.declared.refusal.DecimalRefusal.TheVariants.{NotNumber, Range}
use Rattle.dg_decimal.specs.Value.{billionths, fits}
use Rattle.dg_decimal.specs.Reading.{reading, answer, in_range}
use Rattle.dg_decimal.proofs.Digits.{to_list_all, from_list_all, AllDigits-take_while}

-- ---- a text that the productions make is taken apart into their parts

digit_test : (c : ℕ) → digit_value c < 10 → is_ascii_digit c ≡ true
digit_test c h = let range = digit_from_value c h in let low = range.0 in let high = range.1 in grind arith

no_digit : (c : ℕ) → (c < 48) ⊎ (57 < c) → is_ascii_digit c ≡ false
no_digit c h = grind (arith, h)

-- no sign stands before a digit or a point
no_sign : (text : List ℕ) → 46 ≤ get_or text 0 0 → (begins_negative text ≡ false) × (after_sign text ≡ text)
no_sign text h =
    let a : (get_or text 0 0 == 45) ≡ false = ne_eqb (get_or text 0 0) 45 (λ e. absurd (omega (arith, h, e))) in
    let b : (get_or text 0 0 == 43) ≡ false = ne_eqb (get_or text 0 0) 43 (λ e. absurd (omega (arith, h, e))) in
    (a, rw (a, b) refl)

sign_apart : (negative : Bool) (sign rest : List ℕ) → IsSign negative sign → 46 ≤ get_or rest 0 0
    → (begins_negative (sign ++ rest) ≡ negative) × (after_sign (sign ++ rest) ≡ rest)
sign_apart true sign rest is h = rw is (refl, refl)
sign_apart false sign rest (inl e) h = rw e (no_sign rest h)
sign_apart false sign rest (inr e) h = rw e (refl, refl)

digits_end : (ds rest : List ℕ) → AllDigits 10 ds → is_ascii_digit (get_or rest 0 0) ≡ false
    → prefix_len is_ascii_digit (ds ++ rest) ≡ length ds
digits_end [] [] all stop = refl
digits_end [] (c ∷ cs) all stop = rw stop refl
digits_end (d ∷ ds) rest all stop = rw (digit_test d all.0) (omega (arith, digits_end ds rest all.1 stop))

digits_apart : (ds rest : List ℕ) → AllDigits 10 ds → is_ascii_digit (get_or rest 0 0) ≡ false
    → (digits_in (ds ++ rest) ≡ ds) × (after_digits (ds ++ rest) ≡ rest)
digits_apart ds rest all stop =
    let e = digits_end ds rest all stop in (
      ap (λ (n : ℕ). take n (ds ++ rest)) e ∙ take_at ds rest (length ds) refl,
      ap (λ (n : ℕ). drop n (ds ++ rest)) e ∙ drop_at ds rest (length ds) refl,
    )

-- what a text begins with that is an exponent or empty
record Stops (text : List ℕ) : Type 0 where
  no_digit : is_ascii_digit (get_or text 0 0) ≡ false
  no_point : get_or text 0 0 ≢ 46

fraction_apart : (digits fraction rest : List ℕ) → IsFraction digits fraction → AllDigits 10 digits → Stops rest
    → (fraction_in (fraction ++ rest) ≡ digits) × (after_fraction (fraction ++ rest) ≡ rest)
    × (is_ascii_digit (get_or (fraction ++ rest) 0 0) ≡ false)
fraction_apart digits fraction rest (inl e) all stops =
    let apart = digits_apart digits rest all stops.no_digit in
    rw e (apart.0, apart.1, refl)
fraction_apart digits fraction rest (inr e) all stops =
    let none : (get_or rest 0 0 == 46) ≡ false = ne_eqb (get_or rest 0 0) 46 stops.no_point in
    rw (e.0, none) (sym e.1, refl, stops.no_digit)

first_digit : (ds rest : List ℕ) → AllDigits 10 ds → 0 < length ds → 46 ≤ get_or (ds ++ rest) 0 0
first_digit [] rest all some = absurd (omega (arith, some))
first_digit (d ∷ ds) rest all some = omega (arith, digit_from_value d all.0)

record Exponent (negative : Bool) (digits text : List ℕ) : Type 0 where
  test : is_exponent_or_empty text ≡ true
  sign : begins_negative (drop 1 text) ≡ negative
  digits_is : after_sign (drop 1 text) ≡ digits
  stops : Stops text

letter_stops : (letter : ℕ) (rest : List ℕ) → (letter ≡ small_e) ⊎ (letter ≡ capital_e)
    → ((letter == small_e || letter == capital_e) ≡ true) × Stops (letter ∷ rest)
letter_stops letter rest (inl e) = rw e (refl, record { no_digit = refl; no_point = λ h. absurd (omega (arith, h)) })
letter_stops letter rest (inr e) = rw e (refl, record { no_digit = refl; no_point = λ h. absurd (omega (arith, h)) })

power_apart : (negative : Bool) (digits text : List ℕ) → IsPower negative digits text → AllDigits 10 digits
    → Exponent negative digits text
power_apart negative digits text p all =
    let high : 46 ≤ get_or digits 0 0 = rw append-nil at (first_digit digits [] all p.some_digit) in
    let sign = sign_apart negative p.sign digits p.is_sign high in
    let letter = letter_stops p.letter (p.sign ++ digits) p.is_letter in
    let some : nat_lt 0 (length (after_sign (p.sign ++ digits))) ≡ true = rw sign.1 (lt-ltb 0 (length digits) p.some_digit) in
    let each : list_all is_ascii_digit (after_sign (p.sign ++ digits)) ≡ true = rw sign.1 (to_list_all digits all) in
    let test : is_exponent (p.letter ∷ (p.sign ++ digits)) ≡ true = rw (letter.0, some, each) refl in
    rw p.joined (record { test = or_right (length (p.letter ∷ (p.sign ++ digits)) == 0) (is_exponent (p.letter ∷ (p.sign ++ digits))) test; sign = sign.0; digits_is = sign.1; stops = letter.1 })

exponent_apart : (negative : Bool) (digits text : List ℕ) → IsExponent negative digits text → AllDigits 10 digits
    → Exponent negative digits text
exponent_apart negative digits text (inl p) all = power_apart negative digits text p all
exponent_apart negative digits text (inr (e, n, d)) all =
    rw (e, n, d) (record { test = refl; sign = refl; digits_is = refl; stops = record { no_digit = refl; no_point = λ h. absurd (omega (arith, h)) } })

-- behind the sign a digit or a point stands first
begins_high : (whole digits fraction rest : List ℕ) → AllDigits 10 whole → IsFraction digits fraction → 0 < length whole + length digits
    → 46 ≤ get_or (whole ++ (fraction ++ rest)) 0 0
begins_high (d ∷ whole) digits fraction rest all is some = omega (arith, digit_from_value d all.0)
begins_high [] digits fraction rest all (inl e) some = rw e (omega arith)
begins_high [] digits fraction rest all (inr e) some = absurd (omega (arith, ap length e.1, some))

same_number : (n : Number) (a : Bool) (b c : List ℕ) (d : Bool) (e : List ℕ) → a ≡ n.negative → b ≡ n.whole → c ≡ n.fraction
    → d ≡ n.exponent_negative → e ≡ n.exponent
    → record { negative = a; whole = b; fraction = c; exponent_negative = d; exponent = e } ≡ n
same_number n a b c d e p q r s t = rw (p, q, r, s, t) refl

pub number_in-spelled : (text : List ℕ) (n : Number) → Spells text n → number_in text ≡ Some n
unfolding number_in
number_in-spelled text n s =
    let x = exponent_apart n.exponent_negative n.exponent s.exponent s.is_exponent s.exponent_digits in
    let f = fraction_apart n.fraction s.fraction s.exponent s.is_fraction s.fraction_digits x.stops in
    let d = digits_apart n.whole (s.fraction ++ s.exponent) s.whole_digits f.2 in
    let high = begins_high n.whole n.fraction s.fraction s.exponent s.whole_digits s.is_fraction s.some_digit in
    let h = sign_apart n.negative s.sign (n.whole ++ (s.fraction ++ s.exponent)) s.is_sign high in
    let negative = ap begins_negative s.joined ∙ h.0 in
    let unsigned = ap after_sign s.joined ∙ h.1 in
    let whole = ap digits_in unsigned ∙ d.0 in
    let behind = ap after_digits unsigned ∙ d.1 in
    let fraction = ap fraction_in behind ∙ f.0 in
    let rest = ap after_fraction behind ∙ f.1 in
    let exponent_negative = ap (λ (t : List ℕ). begins_negative (drop 1 t)) rest ∙ x.sign in
    let exponent = ap (λ (t : List ℕ). after_sign (drop 1 t)) rest ∙ x.digits_is in
    let some : 0 < length (whole_in text) + length (fraction_in (after_whole text)) =
    omega (arith, s.some_digit, ap length whole, ap length fraction) in
    let is : is_number text ≡ true =
    and_from (nat_lt 0 (length (whole_in text) + length (fraction_in (after_whole text)))) (is_exponent_or_empty (after_fraction (after_whole text)))
    (lt-ltb 0 (length (whole_in text) + length (fraction_in (after_whole text))) some) (ap is_exponent_or_empty rest ∙ x.test) in
    cond-true (is_number text) (Some (parts_in text)) None is
    ∙ ap Some (same_number n (begins_negative text) (whole_in text) (fraction_in (after_whole text))
    (begins_negative (drop 1 (after_fraction (after_whole text)))) (after_sign (drop 1 (after_fraction (after_whole text))))
    negative whole fraction exponent_negative exponent)

-- ---- a text that is taken apart is what the productions make of its parts

sign_back : (text : List ℕ) → (sign : List ℕ) × IsSign (begins_negative text) sign × (text ≡ sign ++ after_sign text)
sign_back [] = ([], inl refl, refl)
sign_back (b ∷ bs) = ⊎_elim
    (λ (e : (b == 45) ≡ true). minus_back b bs e)
    (λ (e : (b == 45) ≡ false). ⊎_elim (λ (h : (b == 43) ≡ true). plus_back b bs e h) (λ (h : (b == 43) ≡ false). plain_back b bs e h) (cases_Bool (b == 43)))
    (cases_Bool (b == 45))
  where
    minus_back : (b : ℕ) (bs : List ℕ) → (b == 45) ≡ true
        → (sign : List ℕ) × IsSign (begins_negative (b ∷ bs)) sign × (b ∷ bs ≡ sign ++ after_sign (b ∷ bs))
    minus_back b bs e = (minus ∷ [], rw e refl, rw e (ap (λ (c : ℕ). c ∷ bs) (eqb-true b 45 e)))

    plus_back : (b : ℕ) (bs : List ℕ) → (b == 45) ≡ false → (b == 43) ≡ true
        → (sign : List ℕ) × IsSign (begins_negative (b ∷ bs)) sign × (b ∷ bs ≡ sign ++ after_sign (b ∷ bs))
    plus_back b bs e h = (plus ∷ [], rw e (inr refl), rw (e, h) (ap (λ (c : ℕ). c ∷ bs) (eqb-true b 43 h)))

    plain_back : (b : ℕ) (bs : List ℕ) → (b == 45) ≡ false → (b == 43) ≡ false
        → (sign : List ℕ) × IsSign (begins_negative (b ∷ bs)) sign × (b ∷ bs ≡ sign ++ after_sign (b ∷ bs))
    plain_back b bs e h = ([], rw e (inl refl), rw (e, h) refl)

digits_back : (text : List ℕ) → text ≡ digits_in text ++ after_digits text
digits_back text = sym (take-append-drop (prefix_len is_ascii_digit text) text)

fraction_back : (text : List ℕ) → (fraction : List ℕ) × IsFraction (fraction_in text) fraction × (text ≡ fraction ++ after_fraction text)
fraction_back [] = ([], inr (refl, refl), refl)
fraction_back (b ∷ bs) = ⊎_elim
    (λ (e : (b == 46) ≡ true). with_point b bs e)
    (λ (e : (b == 46) ≡ false). without_point b bs e)
    (cases_Bool (b == 46))
  where
    with_point : (b : ℕ) (bs : List ℕ) → (b == 46) ≡ true
        → (fraction : List ℕ) × IsFraction (fraction_in (b ∷ bs)) fraction × (b ∷ bs ≡ fraction ++ after_fraction (b ∷ bs))
    with_point b bs e = (point ∷ digits_in bs, rw e (inl refl), rw e (ap (λ (c : ℕ). c ∷ bs) (eqb-true b 46 e) ∙ ap (λ (t : List ℕ). point ∷ t) (digits_back bs)))

    without_point : (b : ℕ) (bs : List ℕ) → (b == 46) ≡ false
        → (fraction : List ℕ) × IsFraction (fraction_in (b ∷ bs)) fraction × (b ∷ bs ≡ fraction ++ after_fraction (b ∷ bs))
    without_point b bs e = ([], rw e (inr (refl, refl)), rw e refl)

fraction_digits_back : (text : List ℕ) → AllDigits 10 (fraction_in text)
fraction_digits_back text = cond_both (begins_with_point text) (digits_in (drop 1 text)) [] (AllDigits 10) (λ _. AllDigits-take_while (drop 1 text)) (λ _. tt)

letter_back : (b : ℕ) → (b == small_e || b == capital_e) ≡ true → (b ≡ small_e) ⊎ (b ≡ capital_e)
letter_back b h = ⊎_elim (λ (e : (b == small_e) ≡ true). inl (eqb-true b small_e e)) (λ (e : (b == capital_e) ≡ true). inr (eqb-true b capital_e e))
    (or_cases (b == small_e) (b == capital_e) h)

record ExponentBack (text : List ℕ) : Type 0 where
  is : IsExponent (begins_negative (drop 1 text)) (after_sign (drop 1 text)) text
  digits : AllDigits 10 (after_sign (drop 1 text))

exponent_back : (text : List ℕ) → is_exponent_or_empty text ≡ true → ExponentBack text
exponent_back [] h = record { is = inr (refl, refl, refl); digits = tt }
exponent_back (b ∷ bs) h =
    let tests = and_parts (b == small_e || b == capital_e) (nat_lt 0 (length (after_sign bs)) && list_all is_ascii_digit (after_sign bs)) (other_test b bs h) in
    let more = and_parts (nat_lt 0 (length (after_sign bs))) (list_all is_ascii_digit (after_sign bs)) tests.1 in
    let sign = sign_back bs in
    record {
      is = inl (record {
        letter = b;
        sign = sign.0;
        is_letter = letter_back b tests.0;
        is_sign = sign.1;
        some_digit = ltb-true 0 (length (after_sign bs)) more.0;
        joined = ap (λ (t : List ℕ). b ∷ t) sign.2;
      });
      digits = from_list_all (after_sign bs) more.1;
    }
  where
    other_test : (b : ℕ) (bs : List ℕ) → is_exponent_or_empty (b ∷ bs) ≡ true → is_exponent (b ∷ bs) ≡ true
    other_test b bs h =
        let none : (length (b ∷ bs) == 0) ≡ false = ne_eqb (length (b ∷ bs)) 0 (λ e. absurd (omega (arith, e))) in
        rw none at h

spelled_back : (text : List ℕ) → is_number text ≡ true → Spells text (parts_in text)
spelled_back text h =
    let tests = and_parts (nat_lt 0 (length (whole_in text) + length (fraction_in (after_whole text)))) (is_exponent_or_empty (after_fraction (after_whole text))) h in
    let sign = sign_back text in
    let fraction = fraction_back (after_whole text) in
    let exponent = exponent_back (after_fraction (after_whole text)) tests.1 in
    record {
      sign = sign.0;
      fraction = fraction.0;
      exponent = after_fraction (after_whole text);
      is_sign = sign.1;
      whole_digits = AllDigits-take_while (after_sign text);
      is_fraction = fraction.1;
      fraction_digits = fraction_digits_back (after_whole text);
      some_digit = ltb-true 0 (length (whole_in text) + length (fraction_in (after_whole text))) tests.0;
      is_exponent = exponent.is;
      exponent_digits = exponent.digits;
      joined = sign.2 ∙ ap (λ (t : List ℕ). sign.0 ++ t) (digits_back (after_sign text) ∙ ap (λ (t : List ℕ). whole_in text ++ t) fraction.2);
    }

-- the text spells a number, where one is found in it
pub spelled-number_in : (text : List ℕ) (n : Number) → number_in text ≡ Some n → Spells text n
unfolding number_in
spelled-number_in text n h = ⊎_elim
    (λ (e : is_number text ≡ true).
    let found : Some (parts_in text) ≡ Some n = sym (cond-true (is_number text) (Some (parts_in text)) None e) ∙ h in
    let same : parts_in text ≡ n = cc in
    subst (λ (m : Number). Spells text m) same (spelled_back text e))
    (λ (e : is_number text ≡ false).
    let lost : None ≡ Some n = sym (cond-false (is_number text) (Some (parts_in text)) None e) ∙ h in
    cc)
    (cases_Bool (is_number text))

-- ---- what is answered of a text, by the productions

pub reading-spelled : (text : List ℕ) (n : Number) → Spells text n → reading text ≡ in_range (billionths n)
reading-spelled text n s = ap answer (number_in-spelled text n s)

range_is_number : (z : ℤ) → in_range z ≡ Err NotNumber → ⊥
range_is_number z h = cond_both (fits z) (Ok z) (Err Range) (λ (r : Result ℤ DecimalRefusal). r ≡ Err NotNumber → ⊥) (λ _ e. cc) (λ _ e. cc) h

pub reading-refused : (text : List ℕ) → (reading text ≡ Err NotNumber) ↔ ¬ ((n : Number) × Spells text n)
reading-refused text = (
  (λ h s. range_is_number (billionths s.0) (sym (reading-spelled text s.0 s.1) ∙ h)),
  (λ h. none_found text h (number_in text) refl),
)
  where
    none_found : (text : List ℕ) → ¬ ((n : Number) × Spells text n) → (found : Option Number) → number_in text ≡ found
        → answer (number_in text) ≡ Err NotNumber
    none_found text h None e = ap answer e
    none_found text h (Some n) e = absurd (h (n, spelled-number_in text n e))

pub ruleset refusals = reading-refused
