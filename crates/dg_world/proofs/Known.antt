-- What the desk knows of a revision, and what an evaluation with it finds.
use Rattle.std.proofs.Common.{◌≡◌, ℕ, ◌==◌, Bool, true, false, cond, List, [], Contains, refl, sym, ap, ◌∙◌, subst, arith}
use Rattle.std.proofs.lemmas.Bool.Decides.{nat_tests}
use Rattle.dg_base.specs.declared.ids.Endpoint.{Endpoint}
use Rattle.dg_base.specs.Tables.{Tables}
use Rattle.dg_base.specs.Evaluation.{Evaluated, cached_outputs}
use Rattle.dg_laws.proofs.Members.{Contains-from_map, Contains-none}
use Rattle.dg_cache.specs.declared.entry.Entry.{Entry}
use Rattle.dg_cache.specs.Entries.{ends_of, in_order}
use Rattle.dg_line.specs.Revisions.{Seen}
use Rattle.dg_line.specs.Tickets.{Pin}
use Rattle.dg_offer.specs.Offers.{AreValues}
use Rattle.dg_desk.specs.Desks.{Desked, IsDesk, state_of, snapshot_of}
use Rattle.dg_desk.proofs.Caching.{in_order-from}
use Rattle.dg_eval.specs.Contexts.{Evaluating, opened_at, walked, offered}
use Rattle.dg_world.specs.Steps.{given_of, known_of, valued, offer_of}
use Rattle.dg_world.specs.Laws.{IsSourced}
use Rattle.dg_world.proofs.Hits.{valued-cached}
use Rattle.dg_world.proofs.Listed.{now-by-number}

equal-from : (a b : ℕ) → (a == b) ≡ true → a ≡ b
equal-from a b h = grind (arith, nat_tests)

differ-from : {P : Type 0} (a b : ℕ) → (a == b) ≡ false → a ≡ b → P
differ-from a b h e = absurd (grind (arith, nat_tests))

module _ {M : Type 0} (see : Seen → Seen) (t : Tables) where
  -- a snapshot has what is known of its revision
  pub snapshot-known : (d : Desked Seen M) (p : Pin Seen M) (es : List Entry) → IsDesk see t d → Contains (state_of see d).list p →
      ((state_of see d).now.index ≡ p.index → (state_of see d).now.revision ≡ p.revision) → es ≡ snapshot_of (state_of see d) p.index → es ≡ known_of see d p
  snapshot-known d p es desk there same is =
      is ∙ by_case ((state_of see d).now.index == p.index) refl ((see (state_of see d).now.revision).number == (see p.revision).number) refl
    where
      by_case : (b : Bool) → ((state_of see d).now.index == p.index) ≡ b → (c : Bool) → ((see (state_of see d).now.revision).number == (see p.revision).number) ≡ c →
          cond b (in_order (state_of see d).entries) [] ≡ cond c (in_order d.entries) []
      by_case true i true n = ap in_order (sym desk.entries)
      by_case false i false n = refl
      by_case true i false n =
          differ-from (see (state_of see d).now.revision).number (see p.revision).number n
          (ap (λ (r : Seen). (see r).number) (same (equal-from (state_of see d).now.index p.index i)))
      by_case false i true n =
          let here = now-by-number see t (state_of see d) d.history desk.coherent p there (sym (equal-from (see (state_of see d).now.revision).number (see p.revision).number n)) in
          differ-from (state_of see d).now.index p.index i (ap (λ (q : Pin Seen M). q.index) (sym here))

  -- what is given for a ticket was published
  pub given-sourced : (d : Desked Seen M) (p : Pin Seen M) (e : Endpoint) → IsDesk see t d → ((state_of see d).now.index ≡ p.index → (state_of see d).now.revision ≡ p.revision) → Contains (ends_of (given_of see d p)) e →
      IsSourced see (see p.revision) d.history e
  given-sourced d p e desk same c = by_case ((state_of see d).now.index == p.index) refl c
    where
      by_case : (b : Bool) → ((state_of see d).now.index == p.index) ≡ b → Contains (ends_of (cond b (in_order (state_of see d).entries) [])) e → IsSourced see (see p.revision) d.history e
      by_case false i h = Contains-none e h
      by_case true i h =
          let found = Contains-from_map (λ (x : Entry). x.at) (in_order (state_of see d).entries) e h in
          subst (λ (r : Seen). IsSourced see (see r) d.history e) (same (equal-from (state_of see d).now.index p.index i))
          (record { entry = found.0; at = found.2; published = desk.coherent.sources found.0 (in_order-from (state_of see d).entries found.0 found.1) })

-- a context is opened where its ticket and what it knows are these
pub opened-is : {M : Type 0} (c : Evaluating Seen M) (p q : Pin Seen M) (es fs : List Entry) → c ≡ opened_at p es → p ≡ q → es ≡ fs → c ≡ opened_at q fs
opened-is c p q es fs is same known = is ∙ (λ i. opened_at (same i) (known i))

-- what a context offers, where it walked from an endpoint
pub offered-is : {M : Type 0} (t : Tables) (n : ℕ) (p : Pin Seen M) (e : Endpoint) (c : Evaluating Seen M) (w : Evaluated) → c.ticket ≡ p → AreValues t c.ticket.revision.graph c.results →
    walked c ≡ w → offered t c n e ≡ offer_of t n p e w
offered-is {M} t n p e c w ticket right walk =
    let entries =
    valued-cached t c.ticket.revision.graph c.results right
    ∙ ap (λ (q : Pin Seen M). valued t q.revision.graph (cached_outputs t q.revision.graph (ends_of c.results))) ticket
    ∙ ap (λ (v : Evaluated). valued t p.revision.graph (cached_outputs t p.revision.graph v.listed)) walk in
    let hits = ap (λ (v : Evaluated). v.hits) walk in
    λ i. record { ask = n; ticket = ticket i; endpoint = e; entries = entries i; hits = hits i }
