-- The hits of a walk are known endpoints, and its offer has the values of what it lists.
use Rattle.std.proofs.Common.{◌≡◌, ℕ, zero, suc, Bool, true, false, cond, List, [], ◌∷◌, ◌++◌, fold, Contains, refl, subst, inl, inr}
use Rattle.std.proofs.lemmas.List.Elements.{Contains-push_cases}
use Rattle.dg_base.specs.declared.ids.Endpoint.{Endpoint}
use Rattle.dg_base.specs.Order.{is_end_among}
use Rattle.dg_base.specs.Tables.{Tables}
use Rattle.dg_base.specs.Graph.{Graph}
use Rattle.dg_base.specs.Rule.{dependencies}
use Rattle.dg_base.specs.Value.{value_at, enough_fuel}
use Rattle.dg_base.specs.Evaluation.{Evaluated, with_hit, with_end, was_met, evaluated_within, evaluated, nothing_evaluated, is_cached_at, cached_outputs}
use Rattle.dg_laws.proofs.Members.{Contains-none, Contains-head, Contains-tail}
use Rattle.dg_laws.proofs.Among.{Contains_from_among}
use Rattle.dg_laws.proofs.Ends.{ends_tell}
use Rattle.dg_cache.specs.declared.entry.Entry.{Entry}
use Rattle.dg_cache.specs.Entries.{ends_of}
use Rattle.dg_offer.specs.Offers.{AreValues}
use Rattle.dg_eval.specs.Results.{cached_of}
use Rattle.dg_world.specs.Steps.{valued}

-- all of these are known
abbrev AreKnown : List Endpoint → List Endpoint → Type 0
AreKnown known es = (e : Endpoint) → Contains es e → is_end_among known e ≡ true

module _ (follow : Endpoint → List Endpoint) (known : List Endpoint) where
  hit-known : (w : Evaluated) (e : Endpoint) → is_end_among known e ≡ true → AreKnown known w.hits → AreKnown known (with_hit w e).hits
  hit-known w e there h = by_case (is_end_among w.hits e)
    where
      by_case : (b : Bool) → AreKnown known (cond b w (record { listed = w.listed; hits = w.hits ++ e ∷ [] })).hits
      by_case true = h
      by_case false = λ x c. elim (Contains-push_cases w.hits e x c) [
        | inl old ↦ h x old
        | inr same ↦ subst (λ (z : Endpoint). is_end_among known z ≡ true) same there
      ]

  fold-known : (f : Evaluated → Endpoint → Evaluated) → ((w : Evaluated) (e : Endpoint) → AreKnown known w.hits → AreKnown known (f w e).hits) →
      (es : List Endpoint) (w : Evaluated) → AreKnown known w.hits → AreKnown known (fold f w es).hits
  fold-known f one [] w h = h
  fold-known f one (e ∷ es) w h = fold-known f one es (f w e) (one w e h)

  within-known : (k : ℕ) (way : List Endpoint) (w : Evaluated) (e : Endpoint) → AreKnown known w.hits → AreKnown known (evaluated_within k follow known way w e).hits
  within-known zero way w e h = h
  within-known (suc k) way w e h =
      by_case (was_met way w e) (is_end_among known e) refl (fold-known (evaluated_within k follow known (way ++ e ∷ [])) (within-known k (way ++ e ∷ [])) (follow e) w h)
    where
      by_case : (b c : Bool) → is_end_among known e ≡ c → AreKnown known (fold (evaluated_within k follow known (way ++ e ∷ [])) w (follow e)).hits →
          AreKnown known (cond b w (cond c (with_hit w e) (with_end (fold (evaluated_within k follow known (way ++ e ∷ [])) w (follow e)) e))).hits
      by_case true c is r = h
      by_case false true is r = hit-known w e is h
      by_case false false is r = r

pub hits-known : (t : Tables) (g : Graph) (known : List Endpoint) (e x : Endpoint) → Contains (evaluated t g known nothing_evaluated e).hits x → Contains known x
hits-known t g known e x c =
    Contains_from_among ends_tell known x (within-known (dependencies t g) known (enough_fuel t g) [] nothing_evaluated e (λ y h. Contains-none y h) x c)

-- entries with their values are the values of their endpoints
pub valued-cached : (t : Tables) (g : Graph) (xs : List Entry) → AreValues t g xs → cached_of t g xs ≡ valued t g (cached_outputs t g (ends_of xs))
valued-cached t g [] right = refl
valued-cached t g (x ∷ xs) right =
    let rest = valued-cached t g xs (λ y h. right y (Contains-tail x xs y h)) in
    let here = right x (Contains-head x xs) in
    by_case (is_cached_at t g x.at) rest here
  where
    by_case : (b : Bool) → cached_of t g xs ≡ valued t g (cached_outputs t g (ends_of xs)) → x.value ≡ value_at t g x.at →
        cond b (x ∷ cached_of t g xs) (cached_of t g xs) ≡ valued t g (cond b (x.at ∷ cached_outputs t g (ends_of xs)) (cached_outputs t g (ends_of xs)))
    by_case true rest here = rw (here, rest) refl
    by_case false rest here = rest
