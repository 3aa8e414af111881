-- What each event adds to the work of a world.
use Rattle.std.proofs.Common.{◌≡◌, ℕ, suc, ◌+◌, ◌-◌, ◌==◌, Bool, true, false, not, cond, List, [], ◌∷◌, ◌++◌, Option, Some, None, Result, Ok, Err, length, min, take, slice_get, refl, sym, ap, ◌∙◌, subst, inl, inr, arith}
use Rattle.std.proofs.lemmas.List.{append-nil, flat_map_more, length_push}
use Rattle.std.proofs.lemmas.List.Elements.{Contains-push_cases}
use Rattle.std.proofs.lemmas.List.Sums.{sum_by_push}
use Rattle.std.proofs.lemmas.Bool.Decides.{nat_tests}
use Rattle.std.proofs.Common.{eq-eqb}
use Rattle.std.proofs.Math.Seq.{take-length}
use Rattle.dg_base.specs.declared.answer.Answer.{Answer}
use Rattle.dg_base.specs.declared.ids.Endpoint.{Endpoint}
use Rattle.dg_base.specs.Order.{is_end_among}
use Rattle.dg_base.specs.Tables.{Tables}
use Rattle.dg_base.specs.Evaluation.{Evaluated}
use Rattle.dg_cache.specs.declared.cache.Evicted.{Evicted}
use Rattle.dg_cache.specs.declared.cache.EvictEnd.TheVariants as evict_end
use Rattle.dg_cache.specs.declared.entry.Entry.{Entry}
use Rattle.dg_cache.specs.Entries.{in_order, put_all, touched, without}
use Rattle.dg_cache.specs.Caches.{evicted}
use Rattle.dg_line.specs.Revisions.{Seen, counter_at}
use Rattle.dg_line.specs.Links.{IsLink}
use Rattle.dg_line.specs.Tickets.{Pin}
use Rattle.dg_offer.specs.Offers.{Offered}
use Rattle.dg_desk.specs.declared.event.What.TheVariants as what
use Rattle.dg_desk.specs.declared.event.Followed.TheVariants as followed
use Rattle.dg_desk.specs.declared.event.Published.{Published}
use Rattle.dg_desk.specs.declared.event.PublishEnd.{PublishEnd}
use Rattle.dg_desk.specs.declared.event.PublishEnd.TheVariants as publish_end
use Rattle.dg_desk.specs.Machine.{Act, Event, State, is_listed, is_unchanged, unchanged, after, after_publish}
use Rattle.dg_desk.specs.Desks.{Desked, IsDesk, IsPublication, IsPublishEnd, IsEviction, IsEvictionBy, IsEvicted, is_refused, is_refused_at, HasAnswer, recorded, event_of, state_of}
use Rattle.dg_world.specs.Worlds.{Worlded}
use Rattle.dg_world.specs.declared.event.Outcome.{Outcome}
use Rattle.dg_world.specs.declared.event.Outcome.TheVariants as outcome
use Rattle.dg_world.specs.Steps.{IsSame, IsMoved, IsEdited, IsEvaluated, IsAnswered, IsPublish, IsPublished, IsDrop, IsDropped, known_of, offer_of, walk_of}
use Rattle.dg_editor.specs.declared.cause.EditCause.{EditCause}
use Rattle.dg_editor.specs.Machine.{State as Editor}
use Rattle.dg_base.specs.declared.ids.NodeId.{NodeId}
use Rattle.dg_alone.specs.Outcomes.{IsOfPublication, change_outcome}
use Rattle.dg_asks.specs.Asks.{Ask}
use Rattle.dg_play.specs.Work.{Work, moved_on, known_at, offered, after_walk, after_ask, after_evict}
use Rattle.dg_asks.specs.Told.{AreWhole, as_seen, asks_in, asks_told, evictions_in, evictions_told, is_all_gone, is_all_put, is_whole, kept_in, kept_told, late_in, late_told, numbers_below, numbers_in, numbers_told}
use Rattle.dg_alone.specs.Works.{IsMovedOn, IsWhole, IsWorked, work_in}

-- ---- records of work

pub work-is : (a b : Work) → a.entries ≡ b.entries → a.made ≡ b.made → a.kept ≡ b.kept → a.late ≡ b.late → a.asks ≡ b.asks → a.evictions ≡ b.evictions → a ≡ b
work-is a b e m k l s v = λ i. record { entries = e i; made = m i; kept = k i; late = l i; asks = s i; evictions = v i }

-- a revision has its own counters
pub unchanged-same : (r : Seen) (es : List Entry) → unchanged r r es ≡ es
unchanged-same r [] = refl
unchanged-same r (x ∷ es) = rw (eq-eqb (counter_at r x.at) (counter_at r x.at) refl, unchanged-same r es) refl

pub moved_on-same : (r : Seen) (w : Work) → moved_on r r w ≡ w
moved_on-same r w = work-is (moved_on r r w) w (unchanged-same r w.entries) refl refl refl refl refl

-- ---- what is clean by a link has the counters of before

one-more : (a b : ℕ) → a ≡ b + 1 → (a == b) ≡ false
one-more a b h = grind (arith, nat_tests)

clean-test : (t : Tables) (from to : Seen) (ds : List Endpoint) (x : Entry) → IsLink t from to ds → not (is_end_among ds x.at) ≡ is_unchanged from to x
clean-test t from to ds x link = by_case (is_end_among ds x.at) refl
  where
    by_case : (b : Bool) → is_end_among ds x.at ≡ b → not b ≡ is_unchanged from to x
    by_case true is = sym (one-more (counter_at to x.at) (counter_at from x.at) (link.raised x.at is))
    by_case false is = sym (eq-eqb (counter_at to x.at) (counter_at from x.at) (link.same x.at is))

without-clean : (t : Tables) (from to : Seen) (ds : List Endpoint) (es : List Entry) → IsLink t from to ds → without ds es ≡ unchanged from to es
without-clean t from to ds [] link = refl
without-clean t from to ds (x ∷ es) link =
    let rest = without-clean t from to ds es link in
    ap (λ (b : Bool). cond b (x ∷ without ds es) (without ds es)) (clean-test t from to ds x link)
    ∙ ap (λ (l : List Entry). cond (is_unchanged from to x) (x ∷ l) l) rest

-- ---- one record more

slice_get-push : {A : Type 0} (xs : List A) (x : A) → slice_get (xs ++ x ∷ []) (length xs) ≡ Some x
slice_get-push [] x = refl
slice_get-push (y ∷ ys) x = slice_get-push ys x

module _ {M : Type 0} where
  kept-more : (d : Desked Seen M) (act : Act Seen M) → kept_told (d.history ++ event_of d act ∷ []) ≡ kept_told d.history + kept_in act
  kept-more d act = sum_by_push (λ (e : Event Seen M). kept_in e.what) d.history (event_of d act)

  late-more : (d : Desked Seen M) (act : Act Seen M) → late_told (d.history ++ event_of d act ∷ []) ≡ late_told d.history + late_in act
  late-more d act = sum_by_push (λ (e : Event Seen M). late_in e.what) d.history (event_of d act)

  evictions-more : (d : Desked Seen M) (act : Act Seen M) → evictions_told (d.history ++ event_of d act ∷ []) ≡ evictions_told d.history + evictions_in act
  evictions-more d act = sum_by_push (λ (e : Event Seen M). evictions_in e.what) d.history (event_of d act)

  asks-more : (d : Desked Seen M) (act : Act Seen M) → asks_told (d.history ++ event_of d act ∷ []) ≡ asks_told d.history ++ asks_in act
  asks-more d act = sym (flat_map_more (λ (e : Event Seen M). asks_in e.what) [] d.history (event_of d act))

  numbers-more : (d : Desked Seen M) (act : Act Seen M) → numbers_told (d.history ++ event_of d act ∷ []) ≡ numbers_told d.history ++ numbers_in act
  numbers-more d act = sym (flat_map_more (λ (e : Event Seen M). numbers_in e.what) [] d.history (event_of d act))

  records-more : (d : Desked Seen M) (act : Act Seen M) → is_whole act ≡ true → AreWhole d.history → AreWhole (d.history ++ event_of d act ∷ [])
  records-more d act one old e h = elim (Contains-push_cases d.history (event_of d act) e h) [
    | inl before ↦ old e before
    | inr same ↦ subst (λ (z : Event Seen M). is_whole z.what ≡ true) same one
  ]

  pub eviction-whole : (d new : Desked Seen M) (most : ℕ) (a : Evicted) → IsEviction as_seen d most a new → a.end ≡ evict_end.All →
      (new ≡ recorded as_seen d (what.Evict most a)) × (a.gone ≡ min most (length (state_of as_seen d).entries))
  eviction-whole d new most a e all =
      let done : is_refused a ≡ false = ap (is_refused_at a.gone) all in
      let h = subst (λ (b : Bool). IsEvictionBy b as_seen d most a new) done e in
      (h.0, subst (IsEvicted most (length (state_of as_seen d).entries) a.gone) all h.1)

  publication-whole : (d new : Desked Seen M) (o : Offered Seen M) (a : Published) (place : Option ℕ) → IsPublication as_seen d o a new place → a.end ≡ publish_end.All →
      (new ≡ recorded as_seen d (what.Publish o a)) × HasAnswer as_seen (state_of as_seen d) (what.Publish o a)
  publication-whole d new o a (Some place) h all = (h.1, h.2)
  publication-whole d new o a None h all = absurd (other (sym h.1 ∙ all))
    where
      other : ◌≡◌ {A = PublishEnd} publish_end.NoMemory publish_end.All → ⊥
      other e = cc

module _ {N M : Type 0} where
  -- a world with one record more has the work of before, and what the record tells
  worked-more : (w v : Worlded N M) (act : Act Seen M) (done : Work) → v.desk ≡ recorded as_seen w.desk act →
      (after as_seen w.desk.capacity (state_of as_seen w.desk) act).entries ≡ done.entries → v.made ≡ done.made →
      kept_told w.desk.history + kept_in act ≡ done.kept → late_told w.desk.history + late_in act ≡ done.late →
      asks_told w.desk.history ++ asks_in act ≡ done.asks → evictions_told w.desk.history + evictions_in act ≡ done.evictions → IsWorked w v done
  worked-more w v act done is entries made kept late asks evictions = record {
    work = work-is (work_in v) done (ap (λ (d : Desked Seen M). d.entries) is ∙ entries) made
        (ap (λ (d : Desked Seen M). kept_told d.history) is ∙ kept-more w.desk act ∙ kept)
        (ap (λ (d : Desked Seen M). late_told d.history) is ∙ late-more w.desk act ∙ late)
        (ap (λ (d : Desked Seen M). asks_told d.history) is ∙ asks-more w.desk act ∙ asks)
        (ap (λ (d : Desked Seen M). evictions_told d.history) is ∙ evictions-more w.desk act ∙ evictions);
    opened = ap (λ (d : Desked Seen M). d.opened) is;
    capacity = ap (λ (d : Desked Seen M). d.capacity) is;
  }

  whole-more : (w v : Worlded N M) (act : Act Seen M) → v.desk ≡ recorded as_seen w.desk act → is_whole act ≡ true →
      numbers_below (length w.offers) ++ numbers_in act ≡ numbers_below (length v.offers) → IsWhole w → IsWhole v
  whole-more w v act is one numbers old = record {
    records = subst (λ (d : Desked Seen M). AreWhole d.history) (sym is) (records-more w.desk act one old.records);
    numbers =
        ap (λ (d : Desked Seen M). numbers_told d.history) is ∙ numbers-more w.desk act
        ∙ ap (λ (ns : List ℕ). ns ++ numbers_in act) old.numbers ∙ numbers;
  }

  -- ---- where the desk is as it was

  pub worked-same : (w v : Worlded N M) → v.desk ≡ w.desk → v.made ≡ w.made → IsWorked w v (work_in w)
  worked-same w v desk made = record {
    work = λ i. record { entries = (desk i).entries; made = made i; kept = kept_told (desk i).history; late = late_told (desk i).history; asks = asks_told (desk i).history; evictions = evictions_told (desk i).history };
    opened = ap (λ (d : Desked Seen M). d.opened) desk;
    capacity = ap (λ (d : Desked Seen M). d.capacity) desk;
  }

  pub whole-same : (w v : Worlded N M) → v.desk ≡ w.desk → v.offers ≡ w.offers → IsWhole w → IsWhole v
  whole-same w v desk offers old = record {
    records = subst (λ (d : Desked Seen M). AreWhole d.history) (sym desk) old.records;
    numbers = ap (λ (d : Desked Seen M). numbers_told d.history) desk ∙ old.numbers ∙ ap (λ (os : List (Offered Seen M)). numbers_below (length os)) (sym offers);
  }

  pub on-same : (w v : Worlded N M) → v.desk ≡ w.desk → v.made ≡ w.made → v.editor.here ≡ w.editor.here → IsMovedOn w v
  on-same w v desk made here =
      subst (IsWorked w v) (sym (ap (λ (p : Pin Seen M). moved_on w.editor.here.revision p.revision (work_in w)) here ∙ moved_on-same w.editor.here.revision (work_in w))) (worked-same w v desk made)

  pub on-refused : (w v : Worlded N M) → IsSame w v → IsMovedOn w v
  on-refused w v same = on-same w v same.desk same.made same.editor.here

  pub whole-refused : (w v : Worlded N M) → IsSame w v → IsWhole w → IsWhole v
  whole-refused w v same old = whole-same w v same.desk same.offers old

  -- ---- an edit, an undo and a redo

  pub on-moved : (t : Tables) (w v : Worlded N M) → IsDesk as_seen t w.desk → IsMoved t as_seen w v followed.Kept → IsMovedOn w v
  on-moved t w v desk m =
      let act = what.Follow m.link followed.Kept in
      let d = w.desk in
      let entries : without m.link.dirty (state_of as_seen d).entries ≡ unchanged w.editor.here.revision v.editor.here.revision d.entries =
      ap (without m.link.dirty) (sym desk.entries) ∙ without-clean t m.link.from.revision m.link.to.revision m.link.dirty d.entries m.right
      ∙ (λ i. unchanged (m.from i).revision (m.to i).revision d.entries)
      in
      worked-more w v act (moved_on w.editor.here.revision v.editor.here.revision (work_in w)) m.desk entries m.made
      (omega arith) (omega arith) (append-nil (asks_told d.history)) (omega arith)

  pub whole-moved : (t : Tables) (w v : Worlded N M) → IsMoved t as_seen w v followed.Kept → IsWhole w → IsWhole v
  whole-moved t w v m old =
      whole-more w v (what.Follow m.link followed.Kept) m.desk refl
      (append-nil (numbers_below (length w.offers)) ∙ ap (λ (os : List (Offered Seen M)). numbers_below (length os)) (sym m.offers)) old

  pub edited-on : (t : Tables) (w v : Worlded N M) (r : Result Editor EditCause) (made : List NodeId) (x : Result (List NodeId) EditCause) (o : Outcome) → IsDesk as_seen t w.desk →
      IsEdited t as_seen w v r made o → o ≡ change_outcome x → IsMovedOn w v
  edited-on t w v r made x o desk h is = by_case x (subst (IsEdited t as_seen w v r made) is h)
    where
      by_case : (x : Result (List NodeId) EditCause) → IsEdited t as_seen w v r made (change_outcome x) → IsMovedOn w v
      by_case (Ok ns) e = on-moved t w v desk e.2
      by_case (Err c) e = on-refused w v e.1

  pub edited-whole : (t : Tables) (w v : Worlded N M) (r : Result Editor EditCause) (made : List NodeId) (x : Result (List NodeId) EditCause) (o : Outcome) → IsEdited t as_seen w v r made o →
      o ≡ change_outcome x → IsWhole w → IsWhole v
  edited-whole t w v r made x o h is old = by_case x (subst (IsEdited t as_seen w v r made) is h)
    where
      by_case : (x : Result (List NodeId) EditCause) → IsEdited t as_seen w v r made (change_outcome x) → IsWhole v
      by_case (Ok ns) e = whole-moved t w v e.2 old
      by_case (Err c) e = whole-refused w v e.1 old

  pub edited-pins : (t : Tables) (w v : Worlded N M) (r : Result Editor EditCause) (made : List NodeId) (x : Result (List NodeId) EditCause) (o : Outcome) → IsEdited t as_seen w v r made o →
      o ≡ change_outcome x → v.pins ≡ w.pins
  edited-pins t w v r made x o h is = by_case x (subst (IsEdited t as_seen w v r made) is h)
    where
      by_case : (x : Result (List NodeId) EditCause) → IsEdited t as_seen w v r made (change_outcome x) → v.pins ≡ w.pins
      by_case (Ok ns) e = e.2.pins
      by_case (Err c) e = e.1.pins

  -- ---- an eviction

  pub worked-evicted : (t : Tables) (w v : Worlded N M) (most : ℕ) (a : Evicted) → IsDesk as_seen t w.desk → IsEviction as_seen w.desk most a v.desk → v.made ≡ w.made → a.end ≡ evict_end.All →
      IsWorked w v (after_evict most (work_in w))
  worked-evicted t w v most a desk e made all =
      let h = eviction-whole w.desk v.desk most a e all in
      let d = w.desk in
      let entries : evicted a.gone (state_of as_seen d).entries ≡ evicted (min most (length d.entries)) d.entries =
      ap (λ (es : List Entry). evicted a.gone es) (sym desk.entries)
      ∙ ap (λ (n : ℕ). evicted n d.entries) (h.1 ∙ ap (λ (es : List Entry). min most (length es)) (sym desk.entries))
      in
      worked-more w v (what.Evict most a) (after_evict most (work_in w)) h.0 entries made
      (omega arith) (omega arith) (append-nil (asks_told d.history)) refl

  pub whole-evicted : (w v : Worlded N M) (most : ℕ) (a : Evicted) → IsEviction as_seen w.desk most a v.desk → v.offers ≡ w.offers → a.end ≡ evict_end.All → IsWhole w → IsWhole v
  whole-evicted w v most a e offers all old =
      let h = eviction-whole w.desk v.desk most a e all in
      whole-more w v (what.Evict most a) h.0 (ap is_all_gone all)
      (append-nil (numbers_below (length w.offers)) ∙ ap (λ (os : List (Offered Seen M)). numbers_below (length os)) (sym offers)) old

  -- ---- an answer

  -- the offer of an evaluation is there
  pub offer-there : (t : Tables) (w u : Worlded N M) (p : Pin Seen M) (e : Endpoint) (held : Answer) (n : ℕ) → IsAnswered t as_seen w u p e held n →
      slice_get u.offers n ≡ Some (offer_of t n p e (walk_of t p.revision.graph (known_of as_seen w.desk p) e))
  offer-there t w u p e held n h =
      let o = offer_of t n p e (walk_of t p.revision.graph (known_of as_seen w.desk p) e) in
      ap (λ (os : List (Offered Seen M)). slice_get os n) h.offers ∙ ap (slice_get (w.offers ++ o ∷ [])) h.number ∙ slice_get-push w.offers o

  module _ (t : Tables) (w u v : Worlded N M) (p : Pin Seen M) (e : Endpoint) (held : Answer) (n : ℕ) (a : Published) where
    abbrev now : Seen
    now = w.editor.here.revision

    abbrev known : List Entry
    known = known_of as_seen w.desk p

    abbrev walk : Evaluated
    walk = walk_of t p.revision.graph known e

    abbrev offer : Offered Seen M
    offer = offer_of t n p e walk

    module _ (desk : IsDesk as_seen t w.desk) (here : (state_of as_seen w.desk).now ≡ w.editor.here) (answered : IsAnswered t as_seen w u p e held n) (put : IsPublished as_seen u v offer a)
        (all : a.end ≡ publish_end.All) where
      parts : (v.desk ≡ recorded as_seen u.desk (what.Publish offer a)) × HasAnswer as_seen (state_of as_seen u.desk) (what.Publish offer a)
      parts = publication-whole u.desk v.desk offer a a.place put.desk all

      recorded-is : v.desk ≡ recorded as_seen w.desk (what.Publish offer a)
      recorded-is = parts.0 ∙ ap (λ (d : Desked Seen M). recorded as_seen d (what.Publish offer a)) answered.desk

      abbrev kept : List Entry
      kept = unchanged p.revision now (offered t p.revision.graph walk)

      s : State Seen M
      s = state_of as_seen w.desk

      counts : (a.kept ≡ length kept) × (a.kept + a.late ≡ length (offered t p.revision.graph walk)) × (a.done ≡ length kept)
      counts =
          let d_is = subst (λ (d : Desked Seen M). HasAnswer as_seen (state_of as_seen d) (what.Publish offer a)) answered.desk parts.1 in
          let by_now = subst (λ (q : Pin Seen M). IsPublishEnd (is_listed (state_of as_seen w.desk).list p.index) p.index (length offer.entries) (length (unchanged p.revision q.revision offer.entries)) a a.end) here d_is in
          let by_end = subst (IsPublishEnd (is_listed (state_of as_seen w.desk).list p.index) p.index (length offer.entries) (length kept) a) all by_now in
          (by_end.1, by_end.2, by_end.3)

      entries-is : (after as_seen w.desk.capacity (state_of as_seen w.desk) (what.Publish offer a)).entries ≡ put_all w.desk.capacity kept (touched walk.hits w.desk.entries)
      entries-is =
          ap (after_publish w.desk.capacity (state_of as_seen w.desk).entries (unchanged p.revision (state_of as_seen w.desk).now.revision offer.entries) walk.hits a.done) all
          ∙ ap (λ (q : Pin Seen M). put_all w.desk.capacity (take a.done (unchanged p.revision q.revision offer.entries)) (touched walk.hits (state_of as_seen w.desk).entries)) here
          ∙ ap (λ (es : List Entry). put_all w.desk.capacity (take a.done kept) (touched walk.hits es)) (sym desk.entries)
          ∙ ap (λ (k : ℕ). put_all w.desk.capacity (take k kept) (touched walk.hits w.desk.entries)) counts.2
          ∙ ap (λ (es : List Entry). put_all w.desk.capacity es (touched walk.hits w.desk.entries)) (take-length kept)

      known-is : known ≡ known_at now p.revision w.desk.entries
      known-is = ap (λ (q : Pin Seen M). cond (q.revision.number == p.revision.number) (in_order w.desk.entries) []) here

      abbrev question : Ask
      question = record { revision = p.revision; at = e }

      by-walk : IsWorked w v (after_walk t w.desk.capacity now question walk (work_in w))
      by-walk =
          let late_is : a.late ≡ length (offered t p.revision.graph walk) - length kept = let c = counts.1 in let k = counts.0 in omega (arith, c, k) in
          worked-more w v (what.Publish offer a) (after_walk t w.desk.capacity now question walk (work_in w)) recorded-is entries-is
          (put.made ∙ answered.made)
          (ap (λ (k : ℕ). kept_told w.desk.history + k) counts.0)
          (ap (λ (k : ℕ). late_told w.desk.history + k) late_is)
          refl
          (omega arith)

      pub worked-asked : IsWorked w v (after_ask t w.desk.capacity now question (work_in w))
      worked-asked =
          subst (λ (es : List Entry). IsWorked w v (after_walk t w.desk.capacity now question (walk_of t p.revision.graph es e) (work_in w))) known-is by-walk

      pub whole-asked : IsWhole w → IsWhole v
      whole-asked old =
          let long : length v.offers ≡ suc (length w.offers) =
          let o = length_push w.offers offer in let p = ap length put.offers in let q = ap length answered.offers in omega (arith, o, p, q)
          in
          whole-more w v (what.Publish offer a) recorded-is (ap is_all_put all)
          (ap (λ (k : ℕ). numbers_below (length w.offers) ++ k ∷ []) answered.number ∙ sym (ap numbers_below long)) old

  -- ---- what the events of a question answer

  pub answered-is : (t : Tables) (w u : Worlded N M) (x : Option (Pin Seen M)) (p : Pin Seen M) (e : Endpoint) (o : Outcome) (held : Answer) (n : ℕ) → x ≡ Some p → o ≡ outcome.Answered held n →
      IsEvaluated t as_seen w u x e o → IsAnswered t as_seen w u p e held n
  answered-is t w u x p e o held n there is h =
      subst (λ (z : Outcome). IsEvaluated t as_seen w u (Some p) e z) is (subst (λ (y : Option (Pin Seen M)). IsEvaluated t as_seen w u y e o) there h)

  pub published-is : (w v : Worlded N M) (x : Option (Offered Seen M)) (o : Offered Seen M) (a : Outcome) (p : Published) → x ≡ Some o → a ≡ outcome.Published p → IsPublish as_seen w v x a →
      IsPublished as_seen w v o p
  published-is w v x o a p there is h =
      subst (λ (z : Outcome). IsPublish as_seen w v (Some o) z) is (subst (λ (y : Option (Offered Seen M)). IsPublish as_seen w v y a) there h)

  publication-of : (w v : Worlded N M) (o : Offered Seen M) (a : Outcome) → IsPublish as_seen w v (Some o) a → IsOfPublication a
  publication-of w v o (outcome.Edited made answer) h = absurd h
  publication-of w v o (outcome.Refused r) h = absurd h
  publication-of w v o (outcome.Pinned n) h = absurd h
  publication-of w v o (outcome.Answered held n) h = absurd h
  publication-of w v o (outcome.Published p) h = tt
  publication-of w v o (outcome.Evicted e) h = absurd h
  publication-of w v o outcome.Dropped h = absurd h
  publication-of w v o outcome.NoPin h = absurd h
  publication-of w v o outcome.NoOffer h = absurd h
  publication-of w v o outcome.NoMemory h = tt

  pub publication-there : (w v : Worlded N M) (x : Option (Offered Seen M)) (o : Offered Seen M) (a : Outcome) → x ≡ Some o → IsPublish as_seen w v x a → IsOfPublication a
  publication-there w v x o a there h = publication-of w v o a (subst (λ (y : Option (Offered Seen M)). IsPublish as_seen w v y a) there h)

  drop-of : (w v : Worlded N M) (n : ℕ) (p : Pin Seen M) (a : Outcome) → IsDrop w v n (Some p) a → (a ≡ outcome.Dropped) × IsDropped w v n
  drop-of w v n p (outcome.Edited made answer) h = absurd h
  drop-of w v n p (outcome.Refused r) h = absurd h
  drop-of w v n p (outcome.Pinned k) h = absurd h
  drop-of w v n p (outcome.Answered held k) h = absurd h
  drop-of w v n p (outcome.Published q) h = absurd h
  drop-of w v n p (outcome.Evicted e) h = absurd h
  drop-of w v n p outcome.Dropped h = (refl, h)
  drop-of w v n p outcome.NoPin h = absurd h
  drop-of w v n p outcome.NoOffer h = absurd h
  drop-of w v n p outcome.NoMemory h = absurd h

  pub drop-there : (w v : Worlded N M) (n : ℕ) (x : Option (Pin Seen M)) (p : Pin Seen M) (a : Outcome) → x ≡ Some p → IsDrop w v n x a → (a ≡ outcome.Dropped) × IsDropped w v n
  drop-there w v n x p a there h = drop-of w v n p a (subst (λ (y : Option (Pin Seen M)). IsDrop w v n y a) there h)
