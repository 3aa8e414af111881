-- A completion, ask by ask.
use Rattle.std.proofs.Common.{◌≡◌, ℕ, ◌+◌, ◌<◌, ◌≤◌, ◌⊎◌, Bool, true, List, [], ◌∷◌, ◌++◌, Option, Some, None, IfSome, length, sum_by, slice_get, Contains, refl, sym, ap, ◌∙◌, subst, inl, inr, append_assoc, arith, true≢false}
use Rattle.std.proofs.lemmas.List.{append-nil}
use Rattle.std.proofs.lemmas.List.Elements.{Contains-append_cases, Contains-push_cases}
use Rattle.std.proofs.lemmas.List.Sums.{sum_by-append, sum_by-cons}
use Rattle.std.proofs.lemmas.Bool.{cases_eq}
use Rattle.std.proofs.lemmas.Option.{slice_get_within}
use Rattle.dg_laws.proofs.Members.{Contains-cases, Contains-head, Contains-none, Contains-tail}
use Rattle.dg_base.specs.declared.ids.Endpoint.{Endpoint}
use Rattle.dg_base.specs.Tables.{Tables}
use Rattle.dg_base.specs.Value.{value_at}
use Rattle.dg_line.specs.Revisions.{Seen}
use Rattle.dg_line.specs.Tickets.{Pin}
use Rattle.dg_offer.specs.Offers.{Offered}
use Rattle.dg_desk.specs.declared.event.What.TheVariants as what
use Rattle.dg_desk.specs.declared.event.Published.{Published}
use Rattle.dg_desk.specs.Machine.{Act, Event, State, at_start}
use Rattle.dg_desk.specs.Desks.{Desked, IsDesk, IsPublication, event_of, recorded, state_of}
use Rattle.dg_desk.proofs.Playing.{after_all-push}
use Rattle.dg_world.specs.Laws.{HasSources}
use Rattle.dg_asks.specs.Asks.{Ask}
use Rattle.dg_asks.specs.Told.{AreTold, AreUnrefused, IsTold, as_seen, ask_of, evictions_in, evictions_told, follows_in, follows_told, is_put, is_unrefused}
use Rattle.dg_closing.specs.Closing.{AreToldBelow, AreToldWhere, IsDone, IsGrown, is_own}
use Rattle.dg_closing.proofs.Tellings.{sources-seen, told-new, told-on}

some-is : {X : Type 0} {x y : X} → ◌≡◌ {A = Option X} (Some x) (Some y) → x ≡ y
some-is h = cc

-- as a mark sees the revisions, which is as they are
pub value-seen : {t u : Tables} (see : Seen → Seen) → u ≡ t → ((r : Seen) → see r ≡ r) → (r : Seen) (e : Endpoint) → value_at u (see r).graph e ≡ value_at t r.graph e
value-seen see tables seen r e = λ i. value_at (tables i) (seen r i).graph e

pub desk-seen : {M : Type 0} {t u : Tables} (see : Seen → Seen) → u ≡ t → ((r : Seen) → see r ≡ r) → (d : Desked Seen M) → IsDesk see u d → IsDesk as_seen t d
desk-seen {M} {t} {u} see tables seen d h =
    subst (λ (v : Tables). IsDesk as_seen v d) tables (subst (λ (f : Seen → Seen). IsDesk f u d) (λ i r. seen r i) h)

module _ {M : Type 0} where
  -- ---- what grows

  pub grown-same : (d : Desked Seen M) → IsGrown d d
  grown-same d = record { added = []; history = sym (append-nil d.history); own = λ e c. Contains-none e c; opened = refl; capacity = refl }

  pub grown-on : (d u v : Desked Seen M) → IsGrown d u → IsGrown u v → IsGrown d v
  grown-on d u v g h = record {
    added = g.added ++ h.added;
    history = h.history ∙ ap (λ (l : List (Event Seen M)). l ++ h.added) g.history ∙ append_assoc d.history g.added h.added;
    own = λ e c. elim (Contains-append_cases g.added h.added e c) [ inl first ↦ g.own e first | inr then ↦ h.own e then ];
    opened = h.opened ∙ g.opened;
    capacity = h.capacity ∙ g.capacity;
  }

  only-one : (x : Event Seen M) → is_own x.what ≡ true → (e : Event Seen M) → Contains (x ∷ []) e → is_own e.what ≡ true
  only-one x own e c = elim (Contains-cases x [] e c) [
    | inl same ↦ subst (λ (z : Event Seen M). is_own z.what ≡ true) same own
    | inr none ↦ Contains-none e none
  ]

  pub grown-one : (see : Seen → Seen) (d v : Desked Seen M) (w : Act Seen M) → v ≡ recorded see d w → is_own w ≡ true → IsGrown d v
  grown-one see d v w is own = record {
    added = event_of d w ∷ [];
    history = ap (λ (x : Desked Seen M). x.history) is;
    own = only-one (event_of d w) own;
    opened = ap (λ (x : Desked Seen M). x.opened) is;
    capacity = ap (λ (x : Desked Seen M). x.capacity) is;
  }

  pub told-grown : (d v : Desked Seen M) (k : ℕ) (q : Ask) → IsGrown d v → IsTold d.history k q → IsTold v.history k q
  told-grown d v k q g t = subst (λ (l : List (Event Seen M)). IsTold l k q) (sym g.history) (told-on d.history g.added k q t)

  -- ---- follows and evictions

  own-follow : (w : Act Seen M) → is_own w ≡ true → follows_in w ≡ 0
  own-follow (what.Follow link a) own = absurd (true≢false (sym own))
  own-follow (what.Publish o a) own = refl
  own-follow (what.Evict most a) own = absurd (true≢false (sym own))
  own-follow (what.Settle to) own = refl

  own-eviction : (w : Act Seen M) → is_own w ≡ true → evictions_in w ≡ 0
  own-eviction (what.Follow link a) own = absurd (true≢false (sym own))
  own-eviction (what.Publish o a) own = refl
  own-eviction (what.Evict most a) own = absurd (true≢false (sym own))
  own-eviction (what.Settle to) own = refl

  none-told : (f : Act Seen M → ℕ) → ((w : Act Seen M) → is_own w ≡ true → f w ≡ 0) → (hs : List (Event Seen M)) → ((e : Event Seen M) → Contains hs e → is_own e.what ≡ true) →
      sum_by (λ (e : Event Seen M). f e.what) hs ≡ 0
  none-told f one [] own = refl
  none-told f one (h ∷ hs) own =
      let rest = none-told f one hs (λ e c. own e (Contains-tail h hs e c)) in
      let here = one h.what (own h (Contains-head h hs)) in
      let split = sum_by-cons (λ (e : Event Seen M). f e.what) h hs in
      omega (arith, rest, here, split)

  same-told : (f : Act Seen M → ℕ) → ((w : Act Seen M) → is_own w ≡ true → f w ≡ 0) → (d v : Desked Seen M) → IsGrown d v →
      sum_by (λ (e : Event Seen M). f e.what) v.history ≡ sum_by (λ (e : Event Seen M). f e.what) d.history
  same-told f one d v g =
      let all = ap (sum_by (λ (e : Event Seen M). f e.what)) g.history in
      let split = sum_by-append (λ (e : Event Seen M). f e.what) d.history g.added in
      let none = none-told f one g.added g.own in
      omega (arith, all, split, none)

  pub follows-same : (d v : Desked Seen M) → IsGrown d v → follows_told v.history ≡ follows_told d.history
  follows-same d v g = same-told follows_in own-follow d v g

  pub evictions-same : (d v : Desked Seen M) → IsGrown d v → evictions_told v.history ≡ evictions_told d.history
  evictions-same d v g = same-told evictions_in own-eviction d v g

  -- ---- one ask

  pub unrefused-one : (see : Seen → Seen) (d v : Desked Seen M) (w : Act Seen M) → v ≡ recorded see d w → is_unrefused w ≡ true → AreUnrefused d.history → AreUnrefused v.history
  unrefused-one see d v w is one old =
      subst (λ (x : Desked Seen M). AreUnrefused x.history) (sym is) (λ e c. elim (Contains-push_cases d.history (event_of d w) e c) [
        | inl before ↦ old e before
        | inr same ↦ subst (λ (z : Event Seen M). is_unrefused z.what ≡ true) same one
      ])

  pub settled-now : (see : Seen → Seen) (d v : Desked Seen M) (p : Pin Seen M) → v ≡ recorded see d (what.Settle p) → (state_of see v).now ≡ p
  settled-now see d v p is =
      ap (λ (x : Desked Seen M). (state_of see x).now) is
      ∙ ap (λ (s : State Seen M). s.now) (after_all-push see d.capacity (at_start d.opened) d.history (event_of d (what.Settle p)))

  pub done-kept : (see : Seen → Seen) (d : Desked Seen M) (k : ℕ) (q : Ask) → IsTold d.history k q → IsDone see d d k q
  done-kept see d k q told = record { grown = grown-same d; now = refl; told = told; unrefused = λ u. u }

  by-record : (see : Seen → Seen) → ((r : Seen) → see r ≡ r) → (d v : Desked Seen M) (o : Offered Seen M) (a : Published) (k : ℕ) (q : Ask) → v ≡ recorded see d (what.Publish o a) →
      is_put a.end ≡ true → o.ask ≡ k → ask_of o ≡ q → HasSources see d.history o → IsDone see d v k q
  by-record see seen d v o a k q is put number ask sources = record {
    grown = grown-one see d v (what.Publish o a) is refl;
    now =
        ap (λ (x : Desked Seen M). (state_of see x).now) is
        ∙ ap (λ (s : State Seen M). s.now) (after_all-push see d.capacity (at_start d.opened) d.history (event_of d (what.Publish o a)));
    told =
        subst (λ (x : Desked Seen M). IsTold x.history k q) (sym is)
        (told-new d.history (event_of d (what.Publish o a)) o a k q refl number ask (sources-seen see seen d.history o sources));
    unrefused = unrefused-one see d v (what.Publish o a) is put;
  }

  -- an offer that is published and finds memory
  pub done-published : (see : Seen → Seen) → ((r : Seen) → see r ≡ r) → (d v : Desked Seen M) (o : Offered Seen M) (a : Published) (k : ℕ) (q : Ask) → IsPublication see d o a v a.place →
      is_put a.end ≡ true → o.ask ≡ k → ask_of o ≡ q → HasSources see d.history o → IsDone see d v k q
  done-published see seen d v o a k q h put number ask sources = by_place a.place h
    where
      by_place : (place : Option ℕ) → IsPublication see d o a v place → IsDone see d v k q
      by_place (Some place) p = by-record see seen d v o a k q p.1 put number ask sources
      by_place None p = absurd (true≢false (sym put ∙ ap is_put p.1))

  -- ---- all asks

  pub told-below-on : (d v : Desked Seen M) (n : ℕ) (asks : List Ask) (q : Ask) → slice_get asks n ≡ Some q → AreToldBelow d.history n asks → IsGrown d v → IsTold v.history n q → AreToldBelow v.history (n + 1) asks
  told-below-on d v n asks q is old grown told k x less ask = by_less (lt_cases k n less)
    where
      lt_cases : (k n : ℕ) → k < n + 1 → (k < n) ⊎ (k ≡ n)
      lt_cases k n l = elim (cases_eq k n) [ inl e ↦ inr e | inr other ↦ inl (omega (arith, l, other)) ]

      same-ask : k ≡ n → q ≡ x
      same-ask e = some-is (sym is ∙ ap (slice_get asks) (sym e) ∙ ask)

      by_less : (k < n) ⊎ (k ≡ n) → IsTold v.history k x
      by_less (inl before) = told-grown d v k x grown (old k x before ask)
      by_less (inr e) = subst (λ (j : ℕ). IsTold v.history j x) (sym e) (subst (IsTold v.history n) (same-ask e) told)

  pub told-all : (hs : List (Event Seen M)) (n : ℕ) (asks : List Ask) → length asks ≤ n → AreToldBelow hs n asks → AreTold hs asks
  told-all hs n asks end below k q ask = let w = slice_get_within asks k q ask in below k q (omega (arith, w, end)) ask

  -- where a flag is set, the ask stays told
  pub where-grown : (d v : Desked Seen M) (flags : List Bool) (asks : List Ask) → IsGrown d v → AreToldWhere d.history flags asks → AreToldWhere v.history flags asks
  where-grown d v flags asks g old k q flag ask = told-grown d v k q g (old k q flag ask)

  -- the ask of an answer that is kept is told
  pub told-kept : {X : Type 0} (o : Option X) (hs : List (Event Seen M)) (flags : List Bool) (asks : List Ask) (k : ℕ) (q : Ask) → IfSome o (λ (x : X). slice_get flags k ≡ Some true) →
      AreToldWhere hs flags asks → slice_get asks k ≡ Some q → IfSome o (λ (x : X). IsTold hs k q)
  told-kept (Some x) hs flags asks k q flag all ask = all k q flag ask
  told-kept None hs flags asks k q flag all ask = tt
