-- What a parse does behind the last word: it fills in defaults, and asks whether each place has its word.
use Rattle.std.proofs.Common.{◌≡◌, ◌∙◌, ℕ, Bool, true, false, cond, refl, sym, ap, List, [], ◌∷◌, ◌++◌, Option, Some, None, Result, is_some}
use Rattle.std.specs.Prelude.{option_map, option_and_then, fold, find, slice_get, bytes_eq}
use Rattle.std.specs.List.{list_any, list_all}
use Rattle.std.specs.Option.{option_map_or}
use Rattle.std.proofs.lemmas.Bool.{and_parts}
use Rattle.clap.specs.Walk.{Row, Rule, Text, first_of, has_row, with_default}
use Rattle.clap.specs.Facts.{explicit_source}
use Rattle.clap.specs.Takes.{is_given}
use Rattle.clap.specs.Kinds.{Kinds, or_else}
use Rattle.clap.specs.Faults.{default_fault, defaults_fault, given_default_fault}
use Rattle.clap.proofs.WalkLemmas.{find-map}
use Rattle.dg_words.specs.declared.task.Usage.{Usage}
use Rattle.dg_words.specs.Paths.{checked, usage}
use Rattle.dg_words.specs.Grammar.{Named, filled_in, is_filled, is_named, text_of}
use Rattle.dg_words.specs.Texts.{Given, given_of, given_or_usage}
use Rattle.dg_words.specs.Commands.{is_none}
use Rattle.dg_words.proofs.Walking.{then_if}
use Rattle.dg_words.proofs.Using.{either, row_for, rows_for}

-- ---- faults behind the words

-- what the rows give, where nothing fails
abbrev pub from_rows : (List Row → Kinds) → (List Row → Given) → Option (List Row) → Result Given Usage
from_rows fault given None = usage
from_rows fault given (Some rows) = checked (is_none (fault rows)) (given rows)

pub behind_words : (walk below settle : Kinds) (rows : List Row) (fault : List Row → Kinds) (given : List Row → Given) → below ≡ [] →
    checked (is_none (or_else walk (or_else below (or_else settle (fault rows))))) (given rows) ≡ from_rows fault given (then_if walk (then_if settle (Some rows)))
behind_words [] below [] rows fault given none = rw none refl
behind_words [] below (k ∷ ks) rows fault given none = rw none refl
behind_words (k ∷ ks) below settle rows fault given none = refl

-- and so of the texts that are named
pub from_named : (fault : List Row → Kinds) (given : List Row → Given) (places : List Text) →
    ((named : Named) → is_none (fault (rows_for named)) ≡ is_filled places named) → ((named : Named) → given (rows_for named) ≡ given_of named) →
    (o : Option Named) → from_rows fault given (option_map rows_for o) ≡ given_or_usage (option_and_then (filled_in places) o)
from_named fault given places fits same None = refl
from_named fault given places fits same (Some named) =
    rw (fits named, same named) (either (is_filled places named) (λ all. rw all refl) (λ some. rw some refl))

-- ---- defaults

same_cond : {X : Type 0} (b : Bool) (x : X) → cond b x x ≡ x
same_cond true x = refl
same_cond false x = refl

-- no default is refused
abbrev pub has_fit_default : Rule → Bool
has_fit_default a = is_none (given_default_fault a a.defaults)

is_nil : {X : Type 0} (xs : List X) → is_none xs ≡ true → xs ≡ []
is_nil [] none = refl
is_nil (x ∷ xs) none = cc

pub defaults_fit : (c : List Rule) (rows : List Row) → list_all has_fit_default c ≡ true → defaults_fault rows c ≡ []
unfolding defaults_fault
defaults_fit [] rows fit = refl
defaults_fit (a ∷ rest) rows fit =
    let parts = and_parts (has_fit_default a) (list_all has_fit_default rest) fit in
    let own : given_default_fault a a.defaults ≡ [] = is_nil (given_default_fault a a.defaults) parts.0 in
    let here : default_fault rows a ≡ [] = rw own (same_cond _ _) in
    ap (λ (k : Kinds). or_else k (defaults_fault (with_default rows a) rest)) here ∙ defaults_fit rest (with_default rows a) parts.1

-- no default is given
pub without_defaults : (c : List Rule) (rows : List Row) → list_all (λ a. is_none a.defaults) c ≡ true → fold with_default rows c ≡ rows
without_defaults [] rows none = refl
without_defaults (a ∷ rest) rows none =
    let parts = and_parts (is_none a.defaults) (list_all (λ r. is_none r.defaults) rest) none in
    let own : a.defaults ≡ [] = is_nil a.defaults parts.0 in
    let here : with_default rows a ≡ rows = rw own (same_cond (has_row a.id rows) rows) in
    ap (λ (r : List Row). fold with_default r rest) here ∙ without_defaults rest rows parts.1

-- ---- rows that are named

pub first_of-rows_for : (name : Text) (named : Named) → first_of name (rows_for named) ≡ text_of name named
first_of-rows_for name named =
    ap (λ (o : Option Row). option_and_then (λ r. slice_get r.values 0) o) (sym (find-map (λ (r : Row). bytes_eq r.id name) row_for named))
    ∙ go (find (λ n. bytes_eq n.0 name) named)
  where
    go : (o : Option (List ℕ × List ℕ)) → option_and_then (λ r. slice_get r.values 0) (option_map row_for o) ≡ option_map (λ n. n.1) o
    go None = refl
    go (Some n) = refl

is_some-find : {X : Type 0} (p : X → Bool) (xs : List X) → is_some (find p xs) ≡ list_any p xs
is_some-find p [] = refl
is_some-find p (x ∷ xs) = either (p x) (λ here. rw here refl) (λ other. rw other (is_some-find p xs))

pub is_given-rows_for : (name : Text) (named : Named) → is_given name (rows_for named) ≡ is_named name named
is_given-rows_for name named =
    ap (λ (o : Option Row). option_map_or (λ r. explicit_source r.source) o false) (sym (find-map (λ (r : Row). bytes_eq r.id name) row_for named))
    ∙ go (find (λ n. bytes_eq n.0 name) named) ∙ is_some-find (λ n. bytes_eq n.0 name) named
  where
    go : (o : Option (List ℕ × List ℕ)) → option_map_or (λ r. explicit_source r.source) (option_map row_for o) false ≡ is_some o
    go None = refl
    go (Some n) = refl

-- the first of a list with one more
pub find_before : {X : Type 0} (p : X → Bool) (xs : List X) (x : X) → p x ≡ false → find p (xs ++ x ∷ []) ≡ find p xs
find_before p [] x other = rw other refl
find_before p (y ∷ ys) x other = either (p y) (λ here. rw here refl) (λ there. rw there (find_before p ys x other))

pub find_last : {X : Type 0} (p : X → Bool) (xs : List X) (x : X) → list_any p xs ≡ false → p x ≡ true → find p (xs ++ x ∷ []) ≡ Some x
find_last p [] x none here = rw here refl
find_last p (y ∷ ys) x none here =
    either (p y) (λ there. let no : true ≡ false = rw there at none in cc) (λ other. let rest : list_any p ys ≡ false = rw other at none in rw other (find_last p ys x rest here))

pub find_none : {X : Type 0} (p : X → Bool) (xs : List X) → list_any p xs ≡ false → find p xs ≡ None
find_none p [] none = refl
find_none p (y ∷ ys) none =
    either (p y) (λ there. let no : true ≡ false = rw there at none in cc) (λ other. let rest : list_any p ys ≡ false = rw other at none in rw other (find_none p ys rest))
