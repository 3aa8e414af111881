-- What one use of an argument makes of the rows that say what was given.
use Rattle.std.proofs.Common.{◌≡◌, ◌∙◌, ℕ, Bool, true, false, refl, sym, ap, List, [], ◌∷◌, ◌++◌, map, Option, Some, None, codes}
use Rattle.std.specs.Prelude.{option_map, bytes_eq}
use Rattle.std.proofs.lemmas.List.{map-append}
use Rattle.clap.specs.Walk.{Row, Rule, Text, arg_by_id, at_row, has_row, more_values}
use Rattle.clap.specs.declared.builder.value_parser.Reading.TheVariants.{AsWritten}
use Rattle.clap.specs.declared.parser.matches.ValueSource.TheVariants.{CommandLine}
use Rattle.clap.proofs.WalkLemmas.{list_any-map}
use Rattle.dg_words.specs.Grammar.{Named, is_named, with_text}
use Rattle.dg_words.proofs.Walking.{due, flag_as, option_as, pending_at, place_as, use_rows}

pub either : {P : Type 0} (b : Bool) → (b ≡ true → P) → (b ≡ false → P) → P
either true on_true on_false = on_true refl
either false on_true on_false = on_false refl

-- the row of a name with its text
abbrev pub row_for : List ℕ × List ℕ → Row
row_for n = record { id = n.0; values = n.1 ∷ []; count = None; source = Some CommandLine; reading = AsWritten }

abbrev pub rows_for : Named → List Row
rows_for named = map row_for named

pub has_row-rows_for : (name : Text) (named : Named) → has_row name (rows_for named) ≡ is_named name named
has_row-rows_for name named = sym (list_any-map (λ (r : Row). bytes_eq r.id name) row_for named)

pub at_row-missing : (name : Text) (change : Row → List Row) (missing rows : List Row) → has_row name rows ≡ false → at_row name change missing rows ≡ rows ++ missing
at_row-missing name change missing [] none = refl
at_row-missing name change missing (r ∷ rs) none =
    either (bytes_eq r.id name)
    (λ here. let no : true ≡ false = rw here at none in cc)
    (λ other. let rest : has_row name rs ≡ false = rw other at none in rw other (ap (λ (l : List Row). r ∷ l) (at_row-missing name change missing rs rest)))

without-missing : (name : Text) (rows : List Row) → has_row name rows ≡ false → at_row name (λ _. []) [] rows ≡ rows
without-missing name [] none = refl
without-missing name (r ∷ rs) none =
    either (bytes_eq r.id name)
    (λ here. let no : true ≡ false = rw here at none in cc)
    (λ other. let rest : has_row name rs ≡ false = rw other at none in rw other (ap (λ (l : List Row). r ∷ l) (without-missing name rs rest)))

-- a name that has no text yet gets one at the end
more : (name text : Text) (named : Named) (change : Row → List Row) → is_named name named ≡ false →
    Some (at_row name change (row_for (name, text) ∷ []) (at_row name (λ _. []) [] (rows_for named))) ≡ Some (rows_for (named ++ (name, text) ∷ []))
more name text named change new =
    let none : has_row name (rows_for named) ≡ false = has_row-rows_for name named ∙ new in
    let as_some : List Row → Option (List Row) = λ rows. Some rows in
    ap as_some (ap (λ (rows : List Row). at_row name change (row_for (name, text) ∷ []) rows) (without-missing name (rows_for named) none)
    ∙ at_row-missing name change (row_for (name, text) ∷ []) (rows_for named) none ∙ sym (map-append row_for named ((name, text) ∷ [])))

-- a use of an argument of this name, whose values come to this text
abbrev pub GivesText : Rule → List Text → Text → Text → Type 0
GivesText a values name text = (named : Named) → use_rows a values (rows_for named) ≡ option_map rows_for (with_text name text named)

pub option_gives : (name text : Text) → GivesText (option_as name) (text ∷ []) name text
option_gives name text named =
    either (is_named name named)
    (λ there. let has : has_row name (rows_for named) ≡ true = has_row-rows_for name named ∙ there in rw (has, there) refl)
    (λ new. let has : has_row name (rows_for named) ≡ false = has_row-rows_for name named ∙ new in rw (has, new) (more name text named (more_values CommandLine (text ∷ [])) new))

pub place_gives : (name text : Text) (i : ℕ) → GivesText (place_as name i) (text ∷ []) name text
place_gives name text i named =
    either (is_named name named)
    (λ there. let has : has_row name (rows_for named) ≡ true = has_row-rows_for name named ∙ there in rw (has, there) refl)
    (λ new. let has : has_row name (rows_for named) ≡ false = has_row-rows_for name named ∙ new in rw (has, new) (more name text named (more_values CommandLine (text ∷ [])) new))

pub flag_gives : (name : Text) → GivesText (flag_as name) [] name (codes "true")
flag_gives name named =
    either (is_named name named)
    (λ there. let has : has_row name (rows_for named) ≡ true = has_row-rows_for name named ∙ there in rw (has, there) refl)
    (λ new. let has : has_row name (rows_for named) ≡ false = has_row-rows_for name named ∙ new in rw (has, new) (more name (codes "true") named (more_values CommandLine (codes "true" ∷ [])) new))

-- what is pending is used at the next word
pub due_option : (c : List Rule) (name text : Text) (skip : ℕ) (named : Named) → arg_by_id c name ≡ Some (option_as name) →
    due c (pending_at name (text ∷ []) skip (rows_for named)) ≡ option_map rows_for (with_text name text named)
due_option c name text skip named found = rw found (option_gives name text named)

pub due_place : (c : List Rule) (name text : Text) (i skip : ℕ) (named : Named) → arg_by_id c name ≡ Some (place_as name i) →
    due c (pending_at name (text ∷ []) skip (rows_for named)) ≡ option_map rows_for (with_text name text named)
due_place c name text i skip named found = rw found (place_gives name text i named)

-- an option without its value fails
pub due_empty : (c : List Rule) (name : Text) (skip : ℕ) (rows : List Row) → arg_by_id c name ≡ Some (option_as name) →
    due c (pending_at name [] skip rows) ≡ None
due_empty c name skip rows found = rw found refl
