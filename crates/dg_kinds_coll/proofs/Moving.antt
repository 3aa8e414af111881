-- The entries that moved so far, and what the rest gives.
use Rattle.std.proofs.Common.{◌≡◌, ℕ, ◌+◌, ◌<◌, List, [], ◌∷◌, ◌++◌, length, get_or, drop, Bool, true, false, cond, Option, Some, None, refl, sym, ap, ◌∙◌, append_assoc, true≢false}
use Rattle.std.proofs.lemmas.List.{drop_more}
use Rattle.dg_base.specs.declared.datum.Datum.{Datum}
use Rattle.dg_geom.specs.declared.transform.Transform.{Transform}
use Rattle.dg_kinds_coll.specs.Entries.{ahead, moved_entry, moved_entries}

abbrev pub after : List Datum → Option (List Datum) → Option (List Datum)
after all None = None
after all (Some ds) = Some (all ++ ds)

-- one more entry that moved
pub one_more : (all : List Datum) (d : Datum) (rest : Option (List Datum)) → after (all ++ d ∷ []) rest ≡ after all (ahead (Some d) rest)
one_more all d None = refl
one_more all d (Some ds) = ap (λ l. Some l) (append_assoc all (d ∷ []) ds)

-- one more entry of the list, which moved
pub more_moved : (prefix : List ℕ) (outer : Transform) (entries : List Datum) (i : ℕ) (item : Datum) (all : List Datum) (moved : Datum) (e : Option (List Datum)) →
    i < length entries → item ≡ get_or entries i item → Some moved ≡ moved_entry prefix outer (Some item) →
    after all (moved_entries prefix outer (drop i entries)) ≡ e →
    after (all ++ moved ∷ []) (moved_entries prefix outer (drop (i + 1) entries)) ≡ e
more_moved prefix outer entries i item all moved e lt at is so_far =
    let rest = moved_entries prefix outer (drop (i + 1) entries) in
    let d : drop i entries ≡ item ∷ drop (i + 1) entries = drop_more entries i item lt ∙ ap (λ x. x ∷ drop (i + 1) entries) (sym at) in
    one_more all moved rest ∙ ap (λ m. after all (ahead m rest)) is ∙ sym (ap (λ l. after all (moved_entries prefix outer l)) d) ∙ so_far

-- what is there where a test holds, and what isn't where it doesn't
pub some_at : {X : Type 0} (b : Bool) (v x : X) → (b ≡ true) × (x ≡ v) → Some x ≡ cond b (Some v) None
some_at true v x is = ap (λ y. Some y) is.1
some_at false v x is = absurd (true≢false (sym is.0))

pub none_at : {X : Type 0} (b : Bool) (v : X) → (b ≡ true → ⊥) → None ≡ cond b (Some v) None
none_at true v denied = absurd (denied refl)
none_at false v denied = refl
