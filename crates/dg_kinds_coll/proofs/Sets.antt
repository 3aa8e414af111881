-- Whether a text is among those that were put into a set, or among the rest.
use Rattle.std.proofs.Common.{◌≡◌, ℕ, ◌+◌, ◌<◌, List, ◌∷◌, length, get_or, drop, map, Bool, true, false, cond, ◌||◌, Some, refl, sym, ap, ◌∙◌}
use Rattle.std.specs.List.{list_any}
use Rattle.std.specs.Str.{bytes_eq}
use Rattle.std.proofs.lemmas.List.{drop_more}
use Rattle.dg_base.specs.declared.datum.Datum.{Datum}
use Rattle.dg_kinds_go.specs.Values.{text_in}

-- one text that is put into the set
put_one : (is rest old : Bool) → (rest || cond is true old) ≡ ((is || rest) || old)
put_one true true old = refl
put_one true false old = refl
put_one false rest old = refl

-- one of the values is this text
abbrev pub is_among : List Datum → List ℕ → Bool
is_among texts id = list_any (λ c. bytes_eq c id) (map (λ t. text_in (Some t)) texts)

-- one more text of a list
pub put_text : (texts : List Datum) (i : ℕ) (item : Datum) (text id : List ℕ) (old new e : Bool) →
    i < length texts → item ≡ get_or texts i item → text ≡ text_in (Some item) → new ≡ cond (bytes_eq text id) true old →
    (is_among (drop i texts) id || old) ≡ e → (is_among (drop (i + 1) texts) id || new) ≡ e
put_text texts i item text id old new e lt at is more so_far =
    let rest = drop (i + 1) texts in
    let d : drop i texts ≡ item ∷ rest = drop_more texts i item lt ∙ ap (λ x. x ∷ rest) (sym at) in
    ap (λ n. is_among rest id || n) (more ∙ ap (λ t. cond (bytes_eq t id) true old) is)
    ∙ put_one (bytes_eq (text_in (Some item)) id) (is_among rest id) old
    ∙ sym (ap (λ l. is_among l id || old) d)
    ∙ so_far
