-- Names that are interned again, one after the other.
use Rattle.std.proofs.Common.{◌≡◌, ◌≢◌, ℕ, ◌+◌, ◌-◌, ◌<◌, nat_lt, Bool, true, false, cond, List, [], ◌∷◌, ◌++◌, Some, None, is_some, length, take, slice_get, refl, sym, ap, ◌∙◌, arith}
use Rattle.std.specs.Prelude.{AllPairs}
use Rattle.std.specs.Str.{bytes_eq}
use Rattle.std.specs.List.{slice_index_or}
use Rattle.std.proofs.lemmas.List.{take_more, get_or-take, length-take-le}
use Rattle.std.proofs.lemmas.List.Folds.{list_any_none}
use Rattle.std.proofs.lemmas.Option.{get_or_from_slice_get, slice_get_within}
use Rattle.std.proofs.lemmas.Bool.{le-ltb}
use Rattle.std.proofs.lemmas.Slice.Eq.{bytes_eq-Decides}
use Rattle.dg_base.specs.declared.ids.TheConstants.{FIRST_OPEN}
use Rattle.dg_base.specs.Names.{interned, place_of, text_at}
use Rattle.dg_base.proofs.NameLists.{is_found}

-- each text stands once, so the next one is new
pub interned-next : (names : List (List ℕ)) (place : ℕ) (text : List ℕ) → AllPairs (λ a b. a ≢ b) names → place < length names → slice_get names place ≡ Some text →
    interned (take place names) text ≡ take (place + 1) names
interned-next names place text once within at =
    ap (λ b. cond b (take place names) (take place names ++ text ∷ [])) new
    ∙ ap (λ t. take place names ++ t ∷ []) (sym (get_or_from_slice_get names place text [] at))
    ∙ sym (take_more names place [] within)
  where
    other : (name : List ℕ) → name ≢ text → bytes_eq text name ≡ false
    other name not = by (bytes_eq text name) refl
      where
        by : (t : Bool) → bytes_eq text name ≡ t → t ≡ false
        by true e = absurd (not (sym ((bytes_eq-Decides text name).0 e)))
        by false e = refl

    new : is_some (place_of (take place names) text) ≡ false
    new =
        is_found (λ name. bytes_eq text name) (take place names)
        ∙ list_any_none (λ name. bytes_eq text name) (take place names) (λ k d below.
        let long : length (take place names) ≡ place = length-take-le place names (omega (arith, within)) in
        let low : k < place = omega (arith, below, long) in
        let same = get_or-take place names k d low in
        ap (bytes_eq text) same ∙ other (slice_index_or names k d) (λ e. once k place d low within (e ∙ sym (get_or_from_slice_get names place text d at))))

-- the name at a place has the label that so many are before
pub copied-next : (names copy new : List (List ℕ)) (place label : ℕ) (text : List ℕ) → AllPairs (λ a b. a ≢ b) names → copy ≡ take place names → label ≡ FIRST_OPEN + place →
    text_at names (record { 0 = label }) ≡ Some text → new ≡ interned copy text → new ≡ take (place + 1) names
copied-next names copy new place label text once before is at interns =
    let high : nat_lt label FIRST_OPEN ≡ false = le-ltb label FIRST_OPEN (omega (arith, is)) in
    let low : label - FIRST_OPEN ≡ place = omega (arith, is) in
    let there : slice_get names place ≡ Some text =
    ap (slice_get names) (sym low) ∙ sym (ap (λ b. cond b None (slice_get names (label - FIRST_OPEN))) high) ∙ at in
    interns ∙ ap (λ ns. interned ns text) before ∙ interned-next names place text once (slice_get_within names place text there) there
