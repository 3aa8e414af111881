-- What an evaluation offers: by the hits alone, its walk is the one that was walked.
use Rattle.std.proofs.Common.{◌≡◌, Bool, true, false, cond, List, [], ◌∷◌, filter, Contains, refl, sym, ap, ◌∙◌, subst}
use Rattle.dg_base.specs.declared.ids.Endpoint.{Endpoint}
use Rattle.dg_base.specs.Graph.{Graph}
use Rattle.dg_base.specs.Tables.{Tables}
use Rattle.dg_base.specs.Evaluation.{Evaluated, nothing_evaluated, evaluated, is_cached_at, cached_outputs}
use Rattle.dg_laws.proofs.Members.{Contains-from_filter}
use Rattle.dg_walks.proofs.Hits.{hits_enough}
use Rattle.dg_line.specs.Revisions.{Seen}
use Rattle.dg_cache.specs.declared.entry.Entry.{Entry}
use Rattle.dg_cache.specs.Entries.{ends_of}
use Rattle.dg_offer.specs.Offers.{AreValues, IsOffer}
use Rattle.dg_eval.specs.Results.{so_far, cached_of}

ends-filter : (test : Endpoint → Bool) (xs : List Entry) → ends_of (filter (λ x. test x.at) xs) ≡ filter test (ends_of xs)
ends-filter test [] = refl
ends-filter test (x ∷ xs) =
    let rest = ends-filter test xs in
    elim (test x.at) as (λ b. ends_of (cond b (x ∷ filter (λ y. test y.at) xs) (filter (λ y. test y.at) xs)) ≡ cond b (x.at ∷ filter test (ends_of xs)) (filter test (ends_of xs))) [
      | true ↦ ap (λ (z : List Endpoint). x.at ∷ z) rest
      | false ↦ rest
    ]

offered : (t : Tables) (g : Graph) (known results : List Entry) (hits : List Endpoint) (e : Endpoint) → AreValues t g results →
    so_far results hits ≡ evaluated t g (ends_of known) nothing_evaluated e → IsOffer t g e (cached_of t g results) hits
offered t g known results hits e right h =
    let same : evaluated t g hits nothing_evaluated e ≡ so_far results hits =
    ap (λ (w : Evaluated). evaluated t g w.hits nothing_evaluated e) h ∙ hits_enough t g (ends_of known) e ∙ sym h
    in
    record {
      right = λ x c. right x (Contains-from_filter (λ y. is_cached_at t g y.at) results x c).0;
      entries = ends-filter (is_cached_at t g) results ∙ ap (λ (w : Evaluated). cached_outputs t g w.listed) (sym same);
      hits = ap (λ (w : Evaluated). w.hits) (sym same);
    }

-- as a mark sees the revision, which is as it is
pub offered-seen : {t u : Tables} (see : Seen → Seen) → u ≡ t → ((r : Seen) → see r ≡ r) → (r : Seen) (known results : List Entry) (hits : List Endpoint) (e : Endpoint) → AreValues t r.graph results →
    so_far results hits ≡ evaluated t r.graph (ends_of known) nothing_evaluated e → IsOffer u (see r).graph e (cached_of t r.graph results) hits
offered-seen {t} {u} see tables seen r known results hits e right h =
    subst (λ (v : Tables). IsOffer v (see r).graph e (cached_of t r.graph results) hits) (sym tables)
    (subst (λ (s : Seen). IsOffer t s.graph e (cached_of t r.graph results) hits) (sym (seen r)) (offered t r.graph known results hits e right h))
