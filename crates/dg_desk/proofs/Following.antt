-- Following a right link keeps a desk coherent.
use Rattle.std.proofs.Common.{◌≡◌, ◌+◌, ◌⊎◌, Bool, true, false, not, List, Contains, refl, sym, ◌∙◌, inl, inr, arith}
use Rattle.dg_base.specs.declared.ids.Endpoint.{Endpoint}
use Rattle.dg_base.specs.Order.{is_end_among}
use Rattle.dg_base.specs.Tables.{Tables}
use Rattle.dg_base.specs.Value.{value_at}
use Rattle.dg_laws.proofs.Members.{Contains-from_filter}
use Rattle.dg_cache.specs.declared.entry.Entry.{Entry}
use Rattle.dg_line.specs.Revisions.{Seen, counter_at}
use Rattle.dg_line.specs.Links.{IsLink}
use Rattle.dg_offer.specs.Offers.{AreValues}
use Rattle.dg_cache.specs.Entries.{without}
use Rattle.dg_desk.specs.Coherent.{IsFit}

pub fit-itself : (t : Tables) (r : Seen) → IsFit t r r
fit-itself t r = record { number = omega arith; most = λ e. omega arith; same = λ e h. refl }

-- a link raises counters, or keeps them and the values
pub counter-follows : {t : Tables} {a b : Seen} {dirty : List Endpoint} → IsLink t a b dirty → (e : Endpoint) →
    (counter_at b e ≡ counter_at a e + 1) ⊎ ((counter_at a e ≡ counter_at b e) × (value_at t a.graph e ≡ value_at t b.graph e))
counter-follows {t} {a} {b} {dirty} link e = by_test (is_end_among dirty e) refl
  where
    by_test : (d : Bool) → is_end_among dirty e ≡ d → (counter_at b e ≡ counter_at a e + 1) ⊎ ((counter_at a e ≡ counter_at b e) × (value_at t a.graph e ≡ value_at t b.graph e))
    by_test true is = inl (link.raised e is)
    by_test false is = inr (sym (link.same e is), link.agree.settled e is)

pub fit-follows : {t : Tables} {r a b : Seen} {dirty : List Endpoint} → IsLink t a b dirty → IsFit t r a → IsFit t r b
fit-follows {t} {r} {a} {b} {dirty} link fit = record {
  number = omega (arith, link.number, fit.number);
  most = λ e. let m = fit.most e in elim (counter-follows link e) [ inl up ↦ omega (arith, m, up) | inr stays ↦ let s = stays.0 in omega (arith, m, s) ];
  same = λ e h. let m = fit.most e in elim (counter-follows link e) [ inl up ↦ absurd (omega (arith, m, up, h)) | inr stays ↦ fit.same e (h ∙ sym stays.0) ∙ stays.1 ];
}

not_true : (b : Bool) → not b ≡ true → b ≡ false
not_true true h = sym h
not_true false h = refl

-- what an entry outside the dirty ones has
pub without-from : (ds : List Endpoint) (es : List Entry) (x : Entry) → Contains (without ds es) x → Contains es x × (is_end_among ds x.at ≡ false)
without-from ds es x h = let r = Contains-from_filter (λ y. not (is_end_among ds y.at)) es x h in (r.0, not_true (is_end_among ds x.at) r.1)

pub values-follow : {t : Tables} {a b : Seen} {dirty : List Endpoint} (es : List Entry) → IsLink t a b dirty → AreValues t a.graph es → AreValues t b.graph (without dirty es)
values-follow {dirty = dirty} es link right x h = let r = without-from dirty es x h in right x r.0 ∙ link.agree.settled x.at r.1
