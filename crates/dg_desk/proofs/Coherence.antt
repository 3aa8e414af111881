-- Each step of the machine keeps a desk coherent.
use Rattle.std.proofs.Common.{◌≡◌, ℕ, ◌<◌, ◌==◌, ◌⊎◌, List, [], ◌∷◌, ◌++◌, take, get_or, Contains, refl, sym, ap, ◌∙◌, subst, inl, inr, arith, tests}
use Rattle.std.specs.List.{AllPairs}
use Rattle.std.proofs.lemmas.List.Elements.{Contains-append_left, Contains-push, Contains-push_cases, Contains-get_or}
use Rattle.std.proofs.lemmas.List.Quantifiers.{all_pairs_push}
use Rattle.dg_base.specs.declared.ids.Endpoint.{Endpoint}
use Rattle.dg_base.specs.Tables.{Tables}
use Rattle.dg_base.specs.Value.{value_at}
use Rattle.dg_laws.proofs.Members.{Contains-none, Contains-from_filter}
use Rattle.dg_cache.specs.declared.entry.Entry.{Entry}
use Rattle.dg_desk.specs.declared.event.What.TheVariants as what
use Rattle.dg_desk.specs.declared.event.Published.{Published}
use Rattle.dg_line.specs.Revisions.{Seen, counter_at}
use Rattle.dg_line.specs.Links.{IsLink}
use Rattle.dg_line.specs.Tickets.{Pin}
use Rattle.dg_offer.specs.Offers.{Offered, AreValues}
use Rattle.dg_cache.specs.Entries.{without, touched, put_all}
use Rattle.dg_desk.specs.Machine.{Event, State, at_start, at_next, holding, unchanged}
use Rattle.dg_desk.specs.Coherent.{IsFit, IsPublished, IsRight, AreRight, IsCoherent}
use Rattle.dg_desk.proofs.Caching.{Contains-from_take, touched-from, put_all-from}
use Rattle.dg_desk.proofs.Following.{fit-itself, fit-follows, without-from, values-follow}

-- what is kept of an offer at a listed revision is right now
pub unchanged-right : {t : Tables} {then now : Seen} (es : List Entry) → IsFit t then now → AreValues t then.graph es → (x : Entry) → Contains (unchanged then now es) x →
    Contains es x × (counter_at then x.at ≡ counter_at now x.at) × (x.value ≡ value_at t now.graph x.at)
unchanged-right {t} {then = then} {now = now} es fit right x h =
    let r = Contains-from_filter (λ y. counter_at now y.at == counter_at then y.at) es x h in
    let same : counter_at then x.at ≡ counter_at now x.at = sym (search (tests, r.1)) in
    (r.0, same, right x r.0 ∙ fit.same x.at same)

module _ {A B : Type 0} (see : A → Seen) where
  -- what a history shows of an entry, a longer one shows too
  pub published-later : {now : Seen} {hs : List (Event A B)} (h : Event A B) (x : Entry) → IsPublished see now hs x → IsPublished see now (hs ++ h ∷ []) x
  published-later {now} {hs} h x p = record {
    offer = p.offer;
    answer = p.answer;
    event = p.event;
    among = Contains-append_left hs (h ∷ []) p.event p.among;
    is = p.is;
    entry = p.entry;
    counter = p.counter;
  }

  pub published-follows : {a b : Seen} {hs : List (Event A B)} (x : Entry) → counter_at a x.at ≡ counter_at b x.at → IsPublished see a hs x → IsPublished see b hs x
  published-follows x same p = record {
    offer = p.offer;
    answer = p.answer;
    event = p.event;
    among = p.among;
    is = p.is;
    entry = p.entry;
    counter = p.counter ∙ same;
  }

module _ {A B : Type 0} (see : A → Seen) (t : Tables) where
  pub right-more : (hs : List (Event A B)) (h : Event A B) → AreRight see t hs →
      ((o : Offered A B) (a : Published) → h.what ≡ what.Publish o a → IsRight see t o) → AreRight see t (hs ++ h ∷ [])
  right-more hs h before new e o a c is =
      elim (Contains-push_cases hs h e c) [
        | inl early ↦ before e o a early is
        | inr same ↦ new o a (ap (λ (z : Event A B). z.what) same ∙ is)
      ]

  -- at its opening, and after a restart
  pub coherent-start : (p : Pin A B) (hs : List (Event A B)) → AreRight see t hs → IsCoherent see t (at_start p) hs
  coherent-start p hs right = record {
    values = λ x h. Contains-none x h;
    fits = λ q h. elim (Contains-push_cases [] p q h) [ inl none ↦ Contains-none q none | inr is ↦ subst (λ (z : Pin A B). IsFit t (see z.revision) (see p.revision)) is (fit-itself t (see p.revision)) ];
    rise = λ i j d l m. absurd (omega (arith, l, m));
    before = [];
    last = refl;
    offers = right;
    sources = λ x h. Contains-none x h;
  }

  -- the revisions, after a right link from now
  pub fits-follow : {dirty : List Endpoint} (list : List (Pin A B)) (now to : Pin A B) → IsLink t (see now.revision) (see to.revision) dirty →
      ((p : Pin A B) → Contains list p → IsFit t (see p.revision) (see now.revision)) →
      (p : Pin A B) → Contains (list ++ to ∷ []) p → IsFit t (see p.revision) (see to.revision)
  fits-follow list now to link fits p h =
      elim (Contains-push_cases list to p h) [
        | inl early ↦ fit-follows link (fits p early)
        | inr is ↦ subst (λ (z : Pin A B). IsFit t (see z.revision) (see to.revision)) is (fit-itself t (see to.revision))
      ]

  pub rise-follows : {dirty : List Endpoint} (list : List (Pin A B)) (now to : Pin A B) → IsLink t (see now.revision) (see to.revision) dirty →
      ((p : Pin A B) → Contains list p → IsFit t (see p.revision) (see now.revision)) →
      AllPairs (λ p q. (see p.revision).number < (see q.revision).number) list → AllPairs (λ p q. (see p.revision).number < (see q.revision).number) (list ++ to ∷ [])
  rise-follows list now to link fits rise =
      all_pairs_push (λ p q. (see p.revision).number < (see q.revision).number) list to rise (λ k d l.
      let f = (fits (get_or list k d) (Contains-get_or list k d l)).number in omega (arith, f, link.number))

  pub coherent-kept : {s : State A B} {hs : List (Event A B)} {dirty : List Endpoint} (to : Pin A B) (h : Event A B) → IsCoherent see t s hs →
      IsLink t (see s.now.revision) (see to.revision) dirty → AreRight see t (hs ++ h ∷ []) →
      IsCoherent see t (at_next s to (without dirty s.entries)) (hs ++ h ∷ [])
  coherent-kept {s} {hs} {dirty} to h o link right = record {
    values = values-follow s.entries link o.values;
    fits = fits-follow s.list s.now to link o.fits;
    rise = rise-follows s.list s.now to link o.fits o.rise;
    before = s.list;
    last = refl;
    offers = right;
    sources = λ x m. let r = without-from dirty s.entries x m in published-later see h x (published-follows see x (sym (link.same x.at r.1)) (o.sources x r.0));
  }

  pub coherent-cleared : {s : State A B} {hs : List (Event A B)} {dirty : List Endpoint} (to : Pin A B) (h : Event A B) → IsCoherent see t s hs →
      IsLink t (see s.now.revision) (see to.revision) dirty → AreRight see t (hs ++ h ∷ []) → IsCoherent see t (at_next s to []) (hs ++ h ∷ [])
  coherent-cleared {s} {hs} {dirty} to h o link right = record {
    values = λ x m. Contains-none x m;
    fits = fits-follow s.list s.now to link o.fits;
    rise = rise-follows s.list s.now to link o.fits o.rise;
    before = s.list;
    last = refl;
    offers = right;
    sources = λ x m. Contains-none x m;
  }

  -- other entries at the same revision
  pub coherent-holding : {s : State A B} {hs : List (Event A B)} (es : List Entry) (h : Event A B) → IsCoherent see t s hs → AreRight see t (hs ++ h ∷ []) →
      AreValues t (see s.now.revision).graph es → ((x : Entry) → Contains es x → IsPublished see (see s.now.revision) (hs ++ h ∷ []) x) →
      IsCoherent see t (holding s es) (hs ++ h ∷ [])
  coherent-holding es h o right values sources = record {
    values = values;
    fits = o.fits;
    rise = o.rise;
    before = o.before;
    last = o.last;
    offers = right;
    sources = sources;
  }

  -- some entries were dropped from the end
  pub coherent-evicted : {s : State A B} {hs : List (Event A B)} (k : ℕ) (h : Event A B) → IsCoherent see t s hs → AreRight see t (hs ++ h ∷ []) →
      IsCoherent see t (holding s (take k s.entries)) (hs ++ h ∷ [])
  coherent-evicted {s} {hs} k h o right =
      coherent-holding (take k s.entries) h o right (λ x m. o.values x (Contains-from_take k s.entries x m))
      (λ x m. published-later see h x (o.sources x (Contains-from_take k s.entries x m)))

  pub coherent-published : (c : ℕ) {s : State A B} {hs : List (Event A B)} (p : Pin A B) (o : Offered A B) (a : Published) (h : Event A B) (n : ℕ) →
      IsCoherent see t s hs → Contains s.list p → p.revision ≡ o.ticket.revision → h.what ≡ what.Publish o a → IsRight see t o →
      IsCoherent see t (holding s (put_all c (take n (unchanged (see o.ticket.revision) (see s.now.revision) o.entries)) (touched o.hits s.entries))) (hs ++ h ∷ [])
  coherent-published c {s} {hs} p o a h n old listed same is right =
      coherent-holding all h old (right-more hs h old.offers (λ q b same_what. offer_is q b same_what))
      (λ x m. elim (cases x m) [ inl new ↦ (kept x new).2 | inr early ↦ old.values x early ])
      (λ x m. elim (cases x m) [
        | inl new ↦ let k = kept x new in record { offer = o; answer = a; event = h; among = Contains-push hs h; is = is; entry = k.0; counter = k.1 }
        | inr early ↦ published-later see h x (old.sources x early)
      ])
    where
      offer_is : (q : Offered A B) (b : Published) → h.what ≡ what.Publish q b → IsRight see t q
      offer_is q b same_what =
          let both : what.Publish o a ≡ what.Publish q b = sym is ∙ same_what in
          let e : o ≡ q = cc in
          subst (λ (z : Offered A B). IsRight see t z) e right

      news : List Entry
      news = take n (unchanged (see o.ticket.revision) (see s.now.revision) o.entries)

      all : List Entry
      all = put_all c news (touched o.hits s.entries)

      fit : IsFit t (see o.ticket.revision) (see s.now.revision)
      fit = subst (λ (z : A). IsFit t (see z) (see s.now.revision)) same (old.fits p listed)

      kept : (x : Entry) → Contains news x → Contains o.entries x × (counter_at (see o.ticket.revision) x.at ≡ counter_at (see s.now.revision) x.at) × (x.value ≡ value_at t (see s.now.revision).graph x.at)
      kept x new = unchanged-right o.entries fit right.right x (Contains-from_take n (unchanged (see o.ticket.revision) (see s.now.revision) o.entries) x new)

      cases : (x : Entry) → Contains all x → Contains news x ⊎ Contains s.entries x
      cases x m = elim (put_all-from c news (touched o.hits s.entries) x m) [ inl new ↦ inl new | inr early ↦ inr (touched-from o.hits s.entries x early) ]
