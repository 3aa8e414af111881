-- An endpoint's place among the endpoints of entries.
use Rattle.std.proofs.Common.{◌≡◌, ℕ, suc, ◌<◌, Bool, true, false, cond, List, [], ◌∷◌, Option, Some, None, length, nat_lt, refl, sym, ap, ◌∙◌, arith}
use Rattle.std.proofs.lemmas.Bool.{ltb-true}
use Rattle.std.proofs.lemmas.List.{length-map}
use Rattle.std.proofs.lemmas.Option.{slice_get_read}
use Rattle.std.specs.List.{position, position_or_len, slice_get, slice_index_or}
use Rattle.std.specs.Option.{option_map}
use Rattle.dg_base.specs.declared.ids.Endpoint.{Endpoint}
use Rattle.dg_base.specs.declared.answer.Answer.{Answer}
use Rattle.dg_base.specs.Same.{same_end}
use Rattle.dg_cache.specs.declared.entry.Entry.{Entry}
use Rattle.dg_cache.specs.Entries.{ends_of, value_in}

-- an endpoint's value is that of the entry at its place
pub value_in-place : (xs : List Entry) (e : Endpoint) → value_in xs e ≡ option_map (λ x. x.value) (slice_get xs (position_or_len (same_end e) (ends_of xs)))
value_in-place [] e = refl
value_in-place (x ∷ xs) e = let rest = value_in-place xs e in grind (arith, rest)

-- a place that is found is one of the entries
pub place-within : (xs : List Entry) (e : Endpoint) (i : ℕ) → position (same_end e) (ends_of xs) ≡ Some i → (i < length xs) × (position_or_len (same_end e) (ends_of xs) ≡ i)
place-within xs e i is = by_test (nat_lt (position_or_len (same_end e) (ends_of xs)) (length (ends_of xs))) refl is
  where
    by_test : (b : Bool) → nat_lt (position_or_len (same_end e) (ends_of xs)) (length (ends_of xs)) ≡ b → cond b (Some (position_or_len (same_end e) (ends_of xs))) None ≡ Some i →
        (i < length xs) × (position_or_len (same_end e) (ends_of xs) ≡ i)
    by_test true within is =
        let same : position_or_len (same_end e) (ends_of xs) ≡ i = cc in
        let long : length (ends_of xs) ≡ length xs = length-map xs (λ x. x.at) in
        let below = ltb-true _ _ within in
        (omega (arith, same, long, below), same)
    by_test false within is = let no : ⊥ = cc in absurd no

pub place-value : (xs : List Entry) (e : Endpoint) (i : ℕ) (x : Entry) → position (same_end e) (ends_of xs) ≡ Some i → x ≡ slice_index_or xs i x → Some x.value ≡ value_in xs e
place-value xs e i x is here =
    let w = place-within xs e i is in
    sym (value_in-place xs e ∙ ap (λ (k : ℕ). option_map (λ y. y.value) (slice_get xs k)) w.1 ∙ ap (option_map (λ y. y.value)) (slice_get_read xs (length xs) i x refl w.0 here))
