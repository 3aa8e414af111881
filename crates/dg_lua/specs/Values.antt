-- The values that a declaration may have.
use Rattle.std.specs.Prelude.{ℕ, zero, suc, Bool, true, false, ◌==◌, List, ◌++◌, cond, Option, Some, None, Result, Ok, Err, codes, length}
use Rattle.std.specs.Option.{option_map}
use Rattle.dg_base.specs.declared.datum.PType.{PType}
use Rattle.dg_base.specs.declared.datum.PType.TheVariants as ptype
use Rattle.dg_decimal.specs.Reading.{reading}
use Rattle.dg_lua.specs.Parts.{is_letter, is_of_decimal, run, behind_run, behind_blanks, behind, and_then, found_or, Taken, taken, closed, behind_bracket, argument_in, argument_or_none}

-- a value with its type, and what stands behind it
pub record Valued : Type 0 where
  pub ptype : PType
  pub text : List ℕ
  pub behind : List ℕ

abbrev pub typed : PType → Taken → Valued
typed p found = record { ptype = p; text = found.text; behind = found.behind }

-- ---- decimals

abbrev pub is_read : {A E : Type 0} → Result A E → Bool
is_read (Ok a) = true
is_read (Err e) = false

-- the run of bytes of a decimal, where it is one
abbrev pub decimal_in : List ℕ → Option Taken
decimal_in text =
    cond (is_read (reading (run is_of_decimal text))) (Some (taken (run is_of_decimal text) (behind_run is_of_decimal text))) None

-- ---- vectors

-- one more decimal behind a comma, joined to what was found
abbrev pub one_more : Taken → Option Taken
one_more found =
    and_then (behind (codes ",") (behind_blanks found.behind)) (λ rest.
    option_map (λ d. taken (found.text ++ codes ", " ++ d.text) d.behind) (decimal_in (behind_blanks rest)))

-- so many more of them
abbrev pub more : ℕ → Taken → Option Taken
more zero found = Some found
more (suc count) found = and_then (one_more found) (more count)

-- behind an opening bracket: a decimal, so many more, and the bracket that closes
abbrev pub decimals_in : ℕ → List ℕ → Option Taken
decimals_in count text = and_then (and_then (decimal_in (behind_blanks text)) (more count)) closed

-- how many numbers stand behind the first, and what a vector without numbers is
abbrev pub others_of : PType → ℕ
others_of ptype.Vector3 = 2
others_of _ = 3

abbrev pub preset_of : PType → List ℕ
preset_of ptype.Vector3 = codes "0, 0, 0"
preset_of ptype.Quat = codes "0, 0, 0, 1"
preset_of _ = codes "0, 0, 0, 0"

-- behind the opening bracket of a vector: nothing, or its decimals
abbrev pub vector_in : PType → List ℕ → Option Taken
vector_in p text = found_or (behind_bracket text) (λ rest. Some (taken (preset_of p) rest)) (decimals_in (others_of p) text)

-- ---- resources

-- behind `resource.`: a name, and an argument
abbrev pub resource_in : List ℕ → Option Taken
resource_in text =
    cond (length (run is_letter text) == 0) None (and_then (behind (codes "(") (behind_run is_letter text)) argument_or_none)

-- ---- values

-- a value of this type in this form, behind its word
abbrev pub of_type : PType → Option Taken → Option Valued
of_type p found = option_map (typed p) found

-- a value that stands in the line as it is: a flag, a decimal, or a string in brackets
abbrev pub plain_in : List ℕ → Option Valued
plain_in text =
    found_or (behind (codes "true") text) (λ rest. of_type ptype.Boolean (Some (taken (codes "true") rest)))
    (found_or (behind (codes "false") text) (λ rest. of_type ptype.Boolean (Some (taken (codes "false") rest)))
    (found_or (behind (codes "hash(") text) (λ rest. of_type ptype.Hash (argument_in rest))
    (found_or (behind (codes "msg.url(") text) (λ rest. of_type ptype.Url (argument_or_none rest))
    (found_or (behind (codes "resource.") text) (λ rest. of_type ptype.Hash (resource_in rest))
    (of_type ptype.Number (decimal_in text))))))

-- any value; the word that it begins with decides
abbrev pub value_in : List ℕ → Option Valued
value_in text =
    found_or (behind (codes "vmath.vector3(") text) (λ rest. of_type ptype.Vector3 (vector_in ptype.Vector3 rest))
    (found_or (behind (codes "vmath.vector4(") text) (λ rest. of_type ptype.Vector4 (vector_in ptype.Vector4 rest))
    (found_or (behind (codes "vmath.quat(") text) (λ rest. of_type ptype.Quat (vector_in ptype.Quat rest))
    (plain_in text)))
