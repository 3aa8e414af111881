-- Texts without a slash: decimals, the types of components, and what the paths of build files have behind their stems.
use Rattle.std.proofs.Common.{◌≡◌, ◌≢◌, ℕ, zero, suc, ◌+◌, ◌/◌, ◌%◌, ◌≤◌, Bool, true, false, not, ◌==◌, eqb, List, [], ◌∷◌, ◌++◌, length, refl, sym, subst, true≢false, arith, ne_eqb, length-append}
use Rattle.std.specs.Prelude.{codes, nat_lt}
use Rattle.std.specs.List.{list_all}
use Rattle.std.specs.Fmt.{decimal, digits, digits_onto, digit_glyph}
use Rattle.std.proofs.lemmas.Bool.{eqb-true}
use Rattle.std.proofs.lemmas.List.Elements.{All-from_recursion}
use Rattle.dg_text.specs.Paths.{is_slash}
use Rattle.dg_kinds_go.specs.Components.{is_type_byte, is_type_name}
use Rattle.dg_build_laws.proofs.Lists.{at_test, Each, Each-append, Each-weaker, Each-passed}
use Rattle.dg_build_laws.proofs.Segments.{HasNoSlash}

abbrev Differs : ℕ → Type 0
Differs b = is_slash b ≡ false

abbrev Free : List ℕ → Type 0
Free text = Each Differs text

differs : (b : ℕ) → b ≢ 47 → Differs b
differs b h = ne_eqb b 47 h

-- a text of which the checker computes that it has no slash
is_free : (text : List ℕ) → list_all (λ b. not (is_slash b)) text ≡ true → Free text
is_free = Each-passed Differs (λ b. not (is_slash b)) other
  where
    other : (b : ℕ) → not (is_slash b) ≡ true → Differs b
    other b e = by_test (is_slash b) e
      where
        by_test : (c : Bool) → not c ≡ true → c ≡ false
        by_test true h = absurd (true≢false (sym h))
        by_test false h = refl

-- ---- decimals

abbrev High : ℕ → Type 0
High b = 48 ≤ b

glyph_high : (d : ℕ) → High (digit_glyph false d)
glyph_high d = at_test High (nat_lt d 10) (48 + d) (87 + d) (omega arith) (omega arith)

digits_high : (k n : ℕ) (rest : List ℕ) → Each High rest → Each High (digits_onto k 10 false n rest)
digits_high zero n rest h = h
digits_high (suc k) n rest h =
    let more : Each High (digit_glyph false (n % 10) ∷ rest) = (glyph_high (n % 10), h) in
    at_test (Each High) (n / 10 == 0) (digit_glyph false (n % 10) ∷ rest) (digits_onto k 10 false (n / 10) (digit_glyph false (n % 10) ∷ rest))
    more (digits_high k (n / 10) (digit_glyph false (n % 10) ∷ rest) more)

-- the digits are the least bytes of a decimal: the point (46) and the slash (47) are below them
pub decimal_high : (n : ℕ) → Each (λ b. 48 ≤ b) (decimal n)
unfolding digits
decimal_high n = digits_high 64 n [] tt

decimal_free : (n : ℕ) → Free (decimal n)
decimal_free n = Each-weaker High Differs (λ b high. differs b (λ e. omega (arith, high, e))) (decimal n) (decimal_high n)

-- ---- types

type_differs : (b : ℕ) → is_type_byte b ≡ true → Differs b
type_differs b h = by_test (eqb b 47) refl
  where
    by_test : (c : Bool) → eqb b 47 ≡ c → c ≡ false
    by_test true e = absurd (true≢false (sym (subst (λ (z : ℕ). is_type_byte z ≡ true) (eqb-true b 47 e) h)))
    by_test false e = refl

type_free : (kind : List ℕ) → is_type_name kind ≡ true → Free kind
type_free kind h = Each-passed Differs is_type_byte type_differs kind h

-- ---- what stands behind stems

abbrev pub component_tail : ℕ → List ℕ → List ℕ
component_tail number kind = codes "_component_" ++ (decimal number ++ (codes "." ++ (kind ++ codes "c")))

abbrev pub object_tail : ℕ → List ℕ
object_tail number = codes "_object_" ++ (decimal number ++ codes ".goc")

has_none : (text : List ℕ) → Free text → HasNoSlash text
has_none text h = All-from_recursion Differs text h

pub component_free : (number : ℕ) (kind : List ℕ) → is_type_name kind ≡ true → HasNoSlash (component_tail number kind)
component_free number kind h =
    has_none (component_tail number kind)
    (Each-append Differs (codes "_component_") _ (is_free (codes "_component_") refl)
    (Each-append Differs (decimal number) _ (decimal_free number)
    (Each-append Differs (codes ".") _ (is_free (codes ".") refl)
    (Each-append Differs kind (codes "c") (type_free kind h) (is_free (codes "c") refl)))))

pub object_free : (number : ℕ) → HasNoSlash (object_tail number)
object_free number =
    has_none (object_tail number)
    (Each-append Differs (codes "_object_") _ (is_free (codes "_object_") refl)
    (Each-append Differs (decimal number) (codes ".goc") (decimal_free number) (is_free (codes ".goc") refl)))

pub computed_free : (text : List ℕ) → list_all (λ b. not (is_slash b)) text ≡ true → HasNoSlash text
computed_free text h = has_none text (is_free text h)

pub component_long : (number : ℕ) (kind : List ℕ) → 3 ≤ length (component_tail number kind)
component_long number kind = omega (arith, length-append (codes "_component_") (decimal number ++ (codes "." ++ (kind ++ codes "c"))))

pub object_long : (number : ℕ) → 3 ≤ length (object_tail number)
object_long number = omega (arith, length-append (codes "_object_") (decimal number ++ codes ".goc"))
