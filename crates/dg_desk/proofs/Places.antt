-- Where the records of the listed revisions stand, and how many records each pass has, with one record more.
use Rattle.std.proofs.Common.{◌≡◌, ℕ, zero, suc, ◌+◌, ◌-◌, ◌<◌, ◌≤◌, ◌==◌, Bool, true, false, cond, List, [], ◌∷◌, ◌++◌, length, filter, slice_get, option_map, Option, Some, None, refl, sym, ap, ◌∙◌, subst, arith, true≢false, set, get_or, drop, ◌||◌, Contains, replicate, eq-eqb, tests}
use Rattle.std.proofs.lemmas.List.{length-append, length-map, map-append}
use Rattle.std.proofs.lemmas.Option.{slice_get-map}
use Rattle.std.proofs.lemmas.List.Elements.{filter-append}
use Rattle.dg_base.specs.declared.limits.TheConstants.{REVISIONS}
use Rattle.dg_base.specs.Tables.{Tables}
use Rattle.dg_laws.proofs.Members.{Contains-head, Contains-tail}
use Rattle.dg_cache.specs.declared.entry.Entry.{Entry}
use Rattle.dg_line.specs.Revisions.{Seen}
use Rattle.dg_line.specs.Tickets.{Pin}
use Rattle.dg_line.specs.Links.{Linked}
use Rattle.dg_desk.specs.declared.event.TheConstants.{PASSES}
use Rattle.dg_desk.specs.declared.event.What.TheVariants as what
use Rattle.dg_desk.specs.declared.event.Followed.{Followed}
use Rattle.dg_desk.specs.declared.event.Followed.TheVariants as followed
use Rattle.dg_desk.specs.Machine.{Act, Event, State, after, at_start, is_listed}
use Rattle.dg_desk.specs.Desks.{Desked, IsDesk, nth_of, state_of, event_of, is_step, recorded}
use Rattle.dg_desk.specs.Places.{AreCounts, ArePlaces, IsFiled, is_restart, now_after, last_pin, pin_at, pin_from, pin_or, pins_at}
use Rattle.dg_desk.proofs.Playing.{after_all-push}
use Rattle.dg_desk.proofs.Desks.{IsStep, desk_opened, spare-other, spare-step}

get_before : {X : Type 0} (xs ys : List X) (k : ℕ) → k < length xs → slice_get (xs ++ ys) k ≡ slice_get xs k
get_before [] ys k h = absurd (omega (arith, h))
get_before (x ∷ xs) ys zero h = refl
get_before (x ∷ xs) ys (suc k) h = get_before xs ys k (omega (arith, h))

pub get_replicate : {X : Type 0} (n k : ℕ) (x : X) → k < n → slice_get (replicate n x) k ≡ Some x
get_replicate zero k x h = absurd (omega (arith, h))
get_replicate (suc n) zero x h = refl
get_replicate (suc n) (suc k) x h = get_replicate n k x (omega (arith, h))

get_pushed : {X : Type 0} (xs : List X) (x : X) → slice_get (xs ++ x ∷ []) (length xs) ≡ Some x
get_pushed [] x = refl
get_pushed (y ∷ xs) x = get_pushed xs x

get_set-same : {X : Type 0} (xs : List X) (i : ℕ) (y x : X) → slice_get xs i ≡ Some x → slice_get (set xs i y) i ≡ Some y
get_set-same [] i y x h = let none : ⊥ = cc in absurd none
get_set-same (z ∷ zs) zero y x h = refl
get_set-same (z ∷ zs) (suc i) y x h = get_set-same zs i y x h

get_set-other : {X : Type 0} (xs : List X) (i j : ℕ) (y : X) → (i ≡ j → ⊥) → slice_get (set xs i y) j ≡ slice_get xs j
get_set-other [] i j y other = refl
get_set-other (z ∷ zs) zero zero y other = absurd (other refl)
get_set-other (z ∷ zs) zero (suc j) y other = refl
get_set-other (z ∷ zs) (suc i) zero y other = refl
get_set-other (z ∷ zs) (suc i) (suc j) y other = get_set-other zs i j y (λ e. other (ap suc e))

get_set : {X : Type 0} (xs : List X) (i j : ℕ) (y x : X) → slice_get xs j ≡ Some x → slice_get (set xs i y) j ≡ Some (cond (i == j) y x)
get_set {X} xs i j y x h = by_test (i == j) refl
  where
    by_test : (b : Bool) → (i == j) ≡ b → slice_get (set xs i y) j ≡ Some (cond b y x)
    by_test true is = let same : i ≡ j = search (tests, is) in ap (λ k. slice_get (set xs k y) j) same ∙ get_set-same xs j y x h
    by_test false is = get_set-other xs i j y (λ e. true≢false (sym (eq-eqb i j e) ∙ is)) ∙ h

module _ {A B : Type 0} where
  -- places stay with more records
  pins-later : (o : Pin A B) (hs : List (Event A B)) (h : Event A B) (ks : List (Option ℕ)) → ArePlaces (length hs) ks → pins_at o (hs ++ h ∷ []) ks ≡ pins_at o hs ks
  pins-later o hs h [] are = refl
  pins-later o hs h (None ∷ ks) are = ap (λ ps. o ∷ ps) (pins-later o hs h ks are)
  pins-later o hs h (Some k ∷ ks) are =
      ap (λ e. pin_from o e ∷ pins_at o (hs ++ h ∷ []) ks) (get_before hs (h ∷ []) k are.0) ∙ ap (λ ps. pin_at o hs (Some k) ∷ ps) (pins-later o hs h ks are.1)

  pins-pushed : (o : Pin A B) (hs : List (Event A B)) (h : Event A B) (ks : List (Option ℕ)) → ArePlaces (length hs) ks →
      pins_at o (hs ++ h ∷ []) (ks ++ Some (length hs) ∷ []) ≡ pins_at o hs ks ++ now_after o h.what ∷ []
  pins-pushed o hs h ks are =
      map-append (pin_at o (hs ++ h ∷ [])) ks (Some (length hs) ∷ [])
      ∙ ap (λ ps. ps ++ pin_at o (hs ++ h ∷ []) (Some (length hs)) ∷ []) (pins-later o hs h ks are)
      ∙ ap (λ e. pins_at o hs ks ++ pin_from o e ∷ []) (get_pushed hs h)

  -- a search from the last place on
  pub placed-among : (o : Pin A B) (hs : List (Event A B)) (ks : List (Option ℕ)) (n : ℕ) → n < length ks → Contains (pins_at o hs ks) (pin_at o hs (get_or ks n None))
  placed-among o hs [] n h = absurd (omega (arith, h))
  placed-among o hs (k ∷ ks) zero h = Contains-head (pin_at o hs k) (pins_at o hs ks)
  placed-among o hs (k ∷ ks) (suc n) h = Contains-tail (pin_at o hs k) (pins_at o hs ks) (pin_at o hs (get_or ks n None)) (placed-among o hs ks n (omega (arith, h)))

  pub placed_turn : (o : Pin A B) (hs : List (Event A B)) (i : ℕ) (ks : List (Option ℕ)) (n : ℕ) (p : Pin A B) → n < length ks → p ≡ pin_at o hs (get_or ks n None) → (p.index ≡ i → ⊥) →
      is_listed (drop (suc n) (pins_at o hs ks)) i ≡ false → is_listed (drop n (pins_at o hs ks)) i ≡ false
  placed_turn o hs i [] n p h is other rest = absurd (omega (arith, h))
  placed_turn o hs i (k ∷ ks) zero p h is other rest = by_test ((pin_at o hs k).index == i) refl
    where
      by_test : (b : Bool) → ((pin_at o hs k).index == i) ≡ b → (b || is_listed (pins_at o hs ks) i) ≡ false
      by_test true hit = let same : (pin_at o hs k).index ≡ i = search (tests, hit) in absurd (other (ap (λ (q : Pin A B). q.index) is ∙ same))
      by_test false miss = rest
  placed_turn o hs i (k ∷ ks) (suc n) p h is other rest = placed_turn o hs i ks n p (omega (arith, h)) is other rest

  nth_more : (pass : ℕ) (hs : List (Event A B)) (h : Event A B) → nth_of pass (hs ++ h ∷ []) ≡ nth_of pass hs + cond (h.pass == pass) 1 0
  nth_more pass hs h =
      let f = ap length (filter-append (λ (e : Event A B). e.pass == pass) hs (h ∷ [])) in
      let l = length-append (filter (λ (e : Event A B). e.pass == pass) hs) (filter (λ (e : Event A B). e.pass == pass) (h ∷ [])) in
      let one = one_of (h.pass == pass) in
      omega (arith, f, l, one)
    where
      one_of : (b : Bool) → length (cond b (h ∷ []) []) ≡ cond b 1 0
      one_of true = refl
      one_of false = refl

  -- a record more counts for its pass
  pub counts_more : (hs : List (Event A B)) (h : Event A B) (counts : List ℕ) → AreCounts hs counts → AreCounts (hs ++ h ∷ []) (set counts h.pass (nth_of h.pass hs + 1))
  counts_more hs h counts are pass few = get_set counts h.pass pass (nth_of h.pass hs + 1) (nth_of pass hs) (are pass few) ∙ ap Some (by_test (h.pass == pass) refl)
    where
      by_test : (b : Bool) → (h.pass == pass) ≡ b → cond b (nth_of h.pass hs + 1) (nth_of pass hs) ≡ nth_of pass (hs ++ h ∷ [])
      by_test true is =
          let same : h.pass ≡ pass = search (tests, is) in
          let more = nth_more pass hs h ∙ ap (λ b. nth_of pass hs + cond b 1 0) is in
          ap (λ p. nth_of p hs + 1) same ∙ sym more
      by_test false is = let more = nth_more pass hs h ∙ ap (λ b. nth_of pass hs + cond b 1 0) is in omega (arith, more)

places-later : (n m : ℕ) (ks : List (Option ℕ)) → n ≤ m → ArePlaces n ks → ArePlaces m ks
places-later n m [] h are = tt
places-later n m (None ∷ ks) h are = places-later n m ks h are
places-later n m (Some k ∷ ks) h are = let l = are.0 in (omega (arith, l, h), places-later n m ks h are.1)

places-pushed : (n k : ℕ) (ks : List (Option ℕ)) → k < n → ArePlaces n ks → ArePlaces n (ks ++ Some k ∷ [])
places-pushed n k [] h are = (h, tt)
places-pushed n k (None ∷ ks) h are = places-pushed n k ks h are
places-pushed n k (Some j ∷ ks) h are = (are.0, places-pushed n k ks h are.1)

places-kept : (b : Bool) (n : ℕ) (ks : List (Option ℕ)) → ArePlaces n ks → ArePlaces n (cond b [] ks)
places-kept true n ks are = tt
places-kept false n ks are = are

length-kept : (b : Bool) (ks : List (Option ℕ)) → length (cond b [] ks) ≤ length ks
length-kept true ks = omega arith
length-kept false ks = omega arith

pins-kept : {A B : Type 0} (b : Bool) (o : Pin A B) (hs : List (Event A B)) (ks : List (Option ℕ)) → pins_at o hs (cond b [] ks) ≡ cond b [] (pins_at o hs ks)
pins-kept true o hs ks = refl
pins-kept false o hs ks = refl

module _ {A B : Type 0} (see : A → Seen) where
  -- the listed revisions after an act that brings none, and after a follow
  pub list-other : (c : ℕ) (s : State A B) (w : Act A B) → is_step w ≡ false → (after see c s w).list ≡ s.list
  list-other c s (what.Follow link a) other = absurd (true≢false other)
  list-other c s (what.Settle p) other = absurd (true≢false other)
  list-other c s (what.Publish o a) other = refl
  list-other c s (what.Evict m a) other = refl

  pub list-follow : (c : ℕ) (s : State A B) (link : Linked A B) (a : Followed) → (after see c s (what.Follow link a)).list ≡ cond (is_restart a) [] s.list ++ link.to ∷ []
  list-follow c s link followed.Kept = refl
  list-follow c s link (followed.Restarted h w) = refl
  list-follow c s link followed.Cleared = refl

  -- the listed revisions with a record more
  pub list-recorded : (d : Desked A B) (w : Act A B) → (state_of see (recorded see d w)).list ≡ (after see d.capacity (state_of see d) w).list
  list-recorded d w = ap (λ (s : State A B). s.list) (after_all-push see d.capacity (at_start d.opened) d.history (event_of d w))

module _ {A B : Type 0} (see : A → Seen) (t : Tables) where
  pub filed-opened : {p : Pin A B} {c : ℕ} {es : List Entry} {hs : List (Event A B)} {len room : ℕ} {ks : List (Option ℕ)} {ks_room : ℕ} {counts : List ℕ} → es ≡ [] → hs ≡ [] → ks ≡ None ∷ [] →
      len + REVISIONS ≤ room → 1 + REVISIONS ≤ ks_room → AreCounts {A = A} {B = B} [] counts →
      IsFiled see t (record { opened = p; capacity = c; entries = es; history = hs; pass = 0 }) REVISIONS len room ks ks_room counts
  filed-opened {p} {c} no_entries no_records one fits places_fit counted =
      rw (no_entries, no_records, one)
      (record { desk = desk_opened see t p c 0 [] [] refl refl; pass = omega arith; left_is = refl; records_fit = fits; pins = refl; places = tt; places_fit = places_fit; counted = counted })

  pub filed-other : {d new : Desked A B} {left len len_new room room_new : ℕ} {ks : List (Option ℕ)} {ks_room : ℕ} {counts counts_new : List ℕ} (w : Act A B) →
      IsFiled see t d left len room ks ks_room counts → is_step w ≡ false → IsStep see t d w new → len_new + left ≤ room_new → AreCounts new.history counts_new →
      IsFiled see t new left len_new room_new ks ks_room counts_new
  filed-other {d} {new} {left} {len} {len_new} {room} {room_new} {ks} {ks_room} {counts} {counts_new} w old other step fit counted =
      subst (λ (z : Desked A B). IsFiled see t z left len_new room_new ks ks_room counts_new) (sym step.is)
      (record {
        desk = subst (λ (z : Desked A B). IsDesk see t z) step.is step.desk;
        pass = old.pass;
        left_is = old.left_is ∙ sym (spare-other see t d.history (event_of d w) other);
        records_fit = fit;
        pins = pins-later d.opened d.history (event_of d w) ks old.places ∙ old.pins ∙ sym (list-other see d.capacity (state_of see d) w other)
            ∙ sym (list-recorded see d w);
        places = places-later (length d.history) (length (d.history ++ event_of d w ∷ [])) ks longer old.places;
        places_fit = old.places_fit;
        counted = subst (λ (hs : List (Event A B)). AreCounts hs counts_new) (ap (λ (z : Desked A B). z.history) step.is) counted;
      })
    where
      longer : length d.history ≤ length (d.history ++ event_of d w ∷ [])
      longer = let l = length-append d.history (event_of d w ∷ []) in omega (arith, l)

  pub filed-step : {d new : Desked A B} {left len len_new room room_new : ℕ} {ks ks_new : List (Option ℕ)} {ks_room ks_room_new : ℕ} {counts counts_new : List ℕ} (w : Act A B) (fresh : Bool) →
      IsFiled see t d left len room ks ks_room counts → is_step w ≡ true →
      (after see d.capacity (state_of see d) w).list ≡ cond fresh [] (state_of see d).list ++ now_after d.opened w ∷ [] →
      IsStep see t d w new → 1 ≤ left → len_new ≡ len + 1 → room_new ≡ room → AreCounts new.history counts_new →
      ks_new ≡ cond fresh [] ks ++ Some (length d.history) ∷ [] → ks_room_new ≡ ks_room →
      IsFiled see t new (left - 1) len_new room_new ks_new ks_room_new counts_new
  filed-step {d} {new} {left} {len} {len_new} {room} {room_new} {ks} {ks_new} {ks_room} {ks_room_new} {counts} {counts_new} w fresh old brings list step some one-more same counted places same-places =
      subst (λ (z : Desked A B). IsFiled see t z (left - 1) len_new room_new ks_new ks_room_new counts_new) (sym step.is)
      (record {
        desk = subst (λ (z : Desked A B). IsDesk see t z) step.is step.desk;
        pass = old.pass;
        left_is = ap (λ n. n - 1) old.left_is ∙ sym (spare-step see t d.history (event_of d w) brings);
        records_fit = let f = old.records_fit in omega (arith, f, some, one-more, same);
        pins = ap (pins_at d.opened hs) places
            ∙ pins-pushed d.opened d.history (event_of d w) (cond fresh [] ks) (places-kept fresh (length d.history) ks old.places)
            ∙ ap (λ ps. ps ++ now_after d.opened w ∷ []) (pins-kept fresh d.opened d.history ks ∙ ap (λ ps. cond fresh [] ps) old.pins)
            ∙ sym list ∙ sym (list-recorded see d w);
        places = subst (ArePlaces (length hs)) (sym places)
            (places-pushed (length hs) (length d.history) (cond fresh [] ks) (let l = longer in omega (arith, l))
            (places-later (length d.history) (length hs) (cond fresh [] ks) (let l = longer in omega (arith, l)) (places-kept fresh (length d.history) ks old.places)));
        places_fit = let f = old.places_fit in let k = length-kept fresh ks in let l = ap length places ∙ length-append (cond fresh [] ks) (Some (length d.history) ∷ []) in
            omega (arith, f, k, l, some, same-places);
        counted = subst (λ (hs : List (Event A B)). AreCounts hs counts_new) (ap (λ (z : Desked A B). z.history) step.is) counted;
      })
    where
      hs : List (Event A B)
      hs = d.history ++ event_of d w ∷ []

      longer : length hs ≡ length d.history + 1
      longer = length-append d.history (event_of d w ∷ [])

  pub filed-at : {d e : Desked A B} {left len room : ℕ} {ks : List (Option ℕ)} {ks_room : ℕ} {counts : List ℕ} → IsFiled see t d left len room ks ks_room counts → d ≡ e →
      IsFiled see t e left len room ks ks_room counts
  filed-at {d} {e} {left} {len} {room} {ks} {ks_room} {counts} filed is = subst (λ (z : Desked A B). IsFiled see t z left len room ks ks_room counts) is filed

  pub filed-pass : {d : Desked A B} {left len room : ℕ} {ks : List (Option ℕ)} {ks_room : ℕ} {counts : List ℕ} (pass : ℕ) → IsFiled see t d left len room ks ks_room counts → pass < PASSES →
      IsFiled see t (record { opened = d.opened; capacity = d.capacity; entries = d.entries; history = d.history; pass = pass }) left len room ks ks_room counts
  filed-pass pass old few = record {
    desk = record { entries = old.desk.entries; play = old.desk.play; coherent = old.desk.coherent };
    pass = few;
    left_is = old.left_is;
    records_fit = old.records_fit;
    pins = old.pins;
    places = old.places;
    places_fit = old.places_fit;
    counted = old.counted;
  }

  pub filed-same : {d new : Desked A B} {left len len_new room room_new : ℕ} {ks : List (Option ℕ)} {ks_room : ℕ} {counts : List ℕ} →
      IsFiled see t d left len room ks ks_room counts → new ≡ d → len_new + left ≤ room_new → IsFiled see t new left len_new room_new ks ks_room counts
  filed-same {d} {new} {left} {len} {len_new} {room} {room_new} {ks} {ks_room} {counts} old is fits =
      subst (λ (z : Desked A B). IsFiled see t z left len_new room_new ks ks_room counts) (sym is)
      (record {
        desk = old.desk;
        pass = old.pass;
        left_is = old.left_is;
        records_fit = fits;
        pins = old.pins;
        places = old.places;
        places_fit = old.places_fit;
        counted = old.counted;
      })

  -- the desk's revision is at the last place
  pub last-now : (d : Desked A B) (ks : List (Option ℕ)) → IsDesk see t d → pins_at d.opened d.history ks ≡ (state_of see d).list → last_pin d.opened d.history ks ≡ (state_of see d).now
  last-now d ks desk are =
      let all : pins_at d.opened d.history ks ≡ desk.coherent.before ++ (state_of see d).now ∷ [] = are ∙ desk.coherent.last in
      let one = length-append desk.coherent.before ((state_of see d).now ∷ []) in
      let few = ap length all in
      let same = length-map ks (pin_at d.opened d.history) in
      let at : length ks - 1 ≡ length desk.coherent.before = omega (arith, one, few, same) in
      known (slice_get ks (length ks - 1))
      (sym (slice_get-map (pin_at d.opened d.history) ks (length ks - 1)) ∙ ap (λ n. slice_get (pins_at d.opened d.history ks) n) at
      ∙ ap (λ ps. slice_get ps (length desk.coherent.before)) all ∙ get_pushed desk.coherent.before (state_of see d).now)
    where
      known : (k : Option (Option ℕ)) → option_map (pin_at d.opened d.history) k ≡ Some (state_of see d).now → pin_or d.opened d.history k ≡ (state_of see d).now
      known None h = let none : ⊥ = cc in absurd none
      known (Some k) h = cc
