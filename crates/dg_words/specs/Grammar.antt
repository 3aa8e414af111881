-- The grammar of the words behind a task's: words at places, options with a value, and flags.
use Rattle.std.specs.Prelude.{List, [], ◌∷◌, ◌++◌, ℕ, Bool, true, false, cond, ◌==◌, not, ◌&&◌, Option, Some, None, option_map, option_and_then, bytes_eq, codes, drop, find}
use Rattle.std.specs.List.{list_any, list_all, before_first, after_first}

-- the names of the places, of the options that take a value, and of the flags
pub record Form : Type 0 where
  pub places : List (List ℕ)
  pub options : List (List ℕ)
  pub flags : List (List ℕ)

-- the texts that were given so far, by the names of their places and options
abbrev pub Named : Type 0
Named = List (List ℕ × List ℕ)

abbrev pub is_named : List ℕ → Named → Bool
is_named name named = list_any (λ n. bytes_eq n.0 name) named

abbrev pub text_of : List ℕ → Named → Option (List ℕ)
text_of name named = option_map (λ n. n.1) (find (λ n. bytes_eq n.0 name) named)

-- a name is given a text once
abbrev pub with_text : List ℕ → List ℕ → Named → Option Named
with_text name text named = cond (is_named name named) None (Some (named ++ (name, text) ∷ []))

-- a word that begins with a minus
abbrev pub begins_with_minus : List ℕ → Bool
begins_with_minus [] = false
begins_with_minus (b ∷ bs) = b == 45

-- `--` ends the options
abbrev pub is_end : List ℕ → Bool
is_end word = bytes_eq word (codes "--")

-- a word that begins with one minus alone
abbrev pub is_short : List ℕ → Bool
is_short [] = false
is_short (b ∷ bs) = b == 45 && not (begins_with_minus bs)

-- a short one stands before the first `--`
abbrev pub has_short : List (List ℕ) → Bool
has_short [] = false
has_short (word ∷ words) = cond (is_end word) false (cond (is_short word) true (has_short words))

-- the name of `--name` and of `--name=value`, and the value
abbrev pub is_equals : ℕ → Bool
is_equals b = b == 61

abbrev pub name_in : List ℕ → List ℕ
name_in word = before_first is_equals (drop 2 word)

abbrev pub value_in : List ℕ → Option (List ℕ)
value_in word = cond (list_any is_equals (drop 2 word)) (Some (after_first is_equals (drop 2 word))) None

abbrev pub has_name : List ℕ → List (List ℕ) → Bool
has_name name names = list_any (λ n. bytes_eq n name) names

-- the words behind `--` stand at the places that are left
abbrev pub places_in : List (List ℕ) → List (List ℕ) → Named → Option Named
places_in [] places named = Some named
places_in (word ∷ words) [] named = None
places_in (word ∷ words) (place ∷ places) named = option_and_then (places_in words places) (with_text place word named)

-- an option has its value behind a `=`, or else the next word is its value
abbrev pub option_in : List ℕ → Option (List ℕ) → (Named → Option Named) → Option Named → Named → Option Named
option_in name (Some value) others waiting named = option_and_then others (with_text name value named)
option_in name None others waiting named = waiting

-- a flag has no value
abbrev pub flag_in : List ℕ → Option (List ℕ) → (Named → Option Named) → Named → Option Named
flag_in name (Some value) others named = None
flag_in name None others named = option_and_then others (with_text name (codes "true") named)

abbrev pub long_in : Form → List ℕ → Option (List ℕ) → (Named → Option Named) → Option Named → Named → Option Named
long_in form name value others waiting named =
    cond (has_name name form.options) (option_in name value others waiting named)
    (cond (has_name name form.flags) (flag_in name value others named) None)

abbrev pub place_in : List ℕ → List (List ℕ) → (List (List ℕ) → Named → Option Named) → Named → Option Named
place_in word [] others named = None
place_in word (place ∷ places) others named = option_and_then (others places) (with_text place word named)

abbrev mutual
  -- the texts that words give, with those given before them, where these places are left
  pub words_in : Form → List (List ℕ) → List (List ℕ) → Named → Option Named
  words_in form [] places named = Some named
  words_in form (word ∷ words) places named =
      cond (is_end word) (places_in words places named)
      (cond (is_short word) None
      (cond (begins_with_minus word)
      (long_in form (name_in word) (value_in word) (words_in form words places) (waiting_in form words (name_in word) places named) named)
      (place_in word places (words_in form words) named)))

  -- the same where the next word is the value of an option
  pub waiting_in : Form → List (List ℕ) → List ℕ → List (List ℕ) → Named → Option Named
  waiting_in form [] name places named = None
  waiting_in form (value ∷ words) name places named =
      cond (begins_with_minus value) None (option_and_then (words_in form words places) (with_text name value named))

-- each place has its word
abbrev pub is_filled : List (List ℕ) → Named → Bool
is_filled places named = list_all (λ place. is_named place named) places

abbrev pub filled_in : List (List ℕ) → Named → Option Named
filled_in places named = cond (is_filled places named) (Some named) None

-- the texts that the words of a task give
abbrev pub named_in : Form → List (List ℕ) → Option Named
named_in form words = option_and_then (filled_in form.places) (words_in form words form.places [])

-- the forms of the tasks
abbrev pub run_form : Form
run_form = record {
  places = codes "first" ∷ [];
  options = codes "workers" ∷ codes "cache" ∷ [];
  flags = codes "stats" ∷ [];
}

abbrev pub check_form : Form
check_form = record { places = []; options = []; flags = [] }

abbrev pub build_form : Form
build_form = record { places = codes "first" ∷ []; options = codes "workers" ∷ []; flags = [] }

abbrev pub gen_form : Form
gen_form = record {
  places = codes "first" ∷ codes "second" ∷ [];
  options = codes "workers" ∷ codes "cache" ∷ [];
  flags = [];
}

abbrev pub format_form : Form
format_form = record { places = codes "first" ∷ []; options = []; flags = [] }
