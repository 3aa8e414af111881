-- What one record more tells.
use Rattle.std.proofs.Common.{◌≡◌, ◌⊎◌, ℕ, zero, suc, Bool, true, false, List, [], ◌∷◌, ◌++◌, Option, Some, None, set, slice_get, Contains, refl, sym, ap, ◌∙◌, subst, inl, inr, append_assoc}
use Rattle.std.proofs.lemmas.List.Elements.{Contains-append_left, Contains-push}
use Rattle.std.proofs.lemmas.Bool.{cases_eq}
use Rattle.dg_base.specs.declared.ids.Endpoint.{Endpoint}
use Rattle.dg_line.specs.Revisions.{Seen, counter_at}
use Rattle.dg_offer.specs.Offers.{Offered}
use Rattle.dg_desk.specs.declared.event.What.TheVariants as what
use Rattle.dg_desk.specs.declared.event.Published.{Published}
use Rattle.dg_desk.specs.Machine.{Event}
use Rattle.dg_world.specs.Laws.{HasSources}
use Rattle.dg_asks.specs.Asks.{Ask}
use Rattle.dg_asks.specs.Told.{IsTold, ask_of, as_seen}
use Rattle.dg_closing.specs.declared.spots.Spot.{Spot}
use Rattle.dg_closing.specs.Spots.{AreSpotted, HasSpot, IsSpotted, TellsAt, spot_of}
use Rattle.dg_closing.specs.Closing.{AreToldWhere}

none-set : {X : Type 0} (x : X) → ◌≡◌ {A = Option X} None (Some x) → ⊥
none-set x h = cc

false-set : ◌≡◌ {A = Option Bool} (Some false) (Some true) → ⊥
false-set h = cc

get-set-other : {X : Type 0} (xs : List X) (k n : ℕ) (x : X) → (n ≡ k → ⊥) → slice_get (set xs k x) n ≡ slice_get xs n
get-set-other [] k n x other = refl
get-set-other (y ∷ ys) zero zero x other = absurd (other refl)
get-set-other (y ∷ ys) zero (suc n) x other = refl
get-set-other (y ∷ ys) (suc k) zero x other = refl
get-set-other (y ∷ ys) (suc k) (suc n) x other = get-set-other ys k n x (λ e. other (ap suc e))

module _ {M : Type 0} where
  -- ---- what was published

  module _ (see : Seen → Seen) where
    spotted-later : (hs : List (Event Seen M)) (h : Event Seen M) (s : Spot) → IsSpotted see hs s → IsSpotted see (hs ++ h ∷ []) s
    spotted-later hs h s p = record { event = p.event; offer = p.offer; answer = p.answer; among = Contains-append_left hs (h ∷ []) p.event p.among; is = p.is; has = p.has }

    pub spotted-same : (hs : List (Event Seen M)) (h : Event Seen M) (ss : List Spot) → AreSpotted see hs ss → AreSpotted see (hs ++ h ∷ []) ss
    spotted-same hs h ss all s c = spotted-later hs h s (all s c)

    pub spotted-more : (hs : List (Event Seen M)) (h : Event Seen M) (o : Offered Seen M) (a : Published) (ss ts : List Spot) → h.what ≡ what.Publish o a →
        ((s : Spot) → Contains ts s → Contains ss s ⊎ HasSpot (see o.ticket.revision) o.entries s) → AreSpotted see hs ss → AreSpotted see (hs ++ h ∷ []) ts
    spotted-more hs h o a ss ts is new all s c = elim (new s c) [
      | inl old ↦ spotted-later hs h s (all s old)
      | inr has ↦ record { event = h; offer = o; answer = a; among = Contains-push hs h; is = is; has = has }
    ]

    -- an offer of which all hits are there has its sources
    spotted-sources : (hs : List (Event Seen M)) (o : Offered Seen M) (ss : List Spot) → AreSpotted see hs ss →
        ((e : Endpoint) → Contains o.hits e → Contains ss (spot_of (see o.ticket.revision) e)) → HasSources see hs o
    spotted-sources hs o ss all hits e c =
        let s = all (spot_of (see o.ticket.revision) e) (hits e c) in
        let at : s.has.entry.at ≡ e = sym (ap (λ (x : Spot). x.at) s.has.is) in
        record {
          entry = s.has.entry;
          at = at;
          published = record {
            offer = s.offer;
            answer = s.answer;
            event = s.event;
            among = s.among;
            is = s.is;
            entry = s.has.among;
            counter = sym (ap (λ (x : Spot). x.counter) s.has.is) ∙ ap (counter_at (see o.ticket.revision)) (sym at);
          };
        }

    -- as a mark sees the revisions, which is as they are
    pub sources-seen : ((r : Seen) → see r ≡ r) → (hs : List (Event Seen M)) (o : Offered Seen M) → HasSources see hs o → HasSources as_seen hs o
    sources-seen seen hs o h = subst (λ (f : Seen → Seen). HasSources f hs o) (λ i r. seen r i) h

  -- ---- what is told

  pub told-new : (hs : List (Event Seen M)) (h : Event Seen M) (o : Offered Seen M) (a : Published) (k : ℕ) (q : Ask) → h.what ≡ what.Publish o a → o.ask ≡ k → ask_of o ≡ q → HasSources as_seen hs o →
      IsTold (hs ++ h ∷ []) k q
  told-new hs h o a k q is number ask sources =
      record { before = hs; event = h; later = []; among = refl; offer = o; answer = a; is = is; number = number; ask = ask; sources = sources }

  pub told-on : (hs ms : List (Event Seen M)) (k : ℕ) (q : Ask) → IsTold hs k q → IsTold (hs ++ ms) k q
  told-on hs ms k q t = record {
    before = t.before;
    event = t.event;
    later = t.later ++ ms;
    among = ap (λ (l : List (Event Seen M)). l ++ ms) t.among ∙ append_assoc t.before (t.event ∷ t.later) ms;
    offer = t.offer;
    answer = t.answer;
    is = t.is;
    number = t.number;
    ask = t.ask;
    sources = t.sources;
  }

  pub where-later : (hs : List (Event Seen M)) (h : Event Seen M) (flags : List Bool) (asks : List Ask) → AreToldWhere hs flags asks → AreToldWhere (hs ++ h ∷ []) flags asks
  where-later hs h flags asks old k q flag ask = told-on hs (h ∷ []) k q (old k q flag ask)

  -- an offer that tells an ask sets its flag
  pub where-set : (see : Seen → Seen) → ((r : Seen) → see r ≡ r) → (hs : List (Event Seen M)) (h : Event Seen M) (o : Offered Seen M) (a : Published) (ss : List Spot) (flags now : List Bool) (asks : List Ask) (n : ℕ) →
      h.what ≡ what.Publish o a → now ≡ set flags n true → TellsAt see ss asks n o → AreSpotted see hs ss → AreToldWhere hs flags asks → AreToldWhere (hs ++ h ∷ []) now asks
  where-set see seen hs h o a ss flags now asks n is set_is tells all old k q flag ask = elim (cases_eq k n) [
    | inl same ↦
        told-new hs h o a k q is (tells.number ∙ sym same) (tells.ask q (ap (slice_get asks) (sym same) ∙ ask)) (sources-seen see seen hs o (spotted-sources see hs o ss all tells.hits))
    | inr other ↦ told-on hs (h ∷ []) k q (old k q (sym (ap (λ (l : List Bool). slice_get l k) set_is ∙ get-set-other flags n k true other) ∙ flag) ask)
  ]

-- no flag is set yet
pub none-push : (xs : List Bool) → ((k : ℕ) → slice_get xs k ≡ Some true → ⊥) → (k : ℕ) → slice_get (xs ++ false ∷ []) k ≡ Some true → ⊥
none-push [] none zero h = false-set h
none-push [] none (suc k) h = none-set true h
none-push (y ∷ ys) none zero h = none zero h
none-push (y ∷ ys) none (suc k) h = none-push ys (λ j e. none (suc j) e) k h
