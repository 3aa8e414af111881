-- What a cache's layout shows, and what changes of it make of the entries.
use Rattle.std.proofs.Common.{◌≡◌, ℕ, zero, suc, ◌+◌, ◌-◌, ◌<◌, ◌≤◌, Bool, true, false, not, cond, ◌&&◌, ◌||◌, List, [], ◌∷◌, Option, Some, None, filter, take, length, slice_get, nat_lt, IsTrue, ltb-true, ltb-false, refl, sym, ap, ◌∙◌, subst, arith, true≢false}
use Rattle.std.proofs.lemmas.Bool.{or_left, or_right, false_from_ne_true}
use Rattle.std.proofs.lemmas.List.{length-map, length-take, take-map, take-take}
use Rattle.dg_base.specs.declared.ids.Endpoint.{Endpoint}
use Rattle.dg_base.specs.Same.{same_end}
use Rattle.dg_base.specs.Order.{is_end_among, ends_rise, ordered}
use Rattle.dg_laws.proofs.Orders.{ordered-rise, ordered-among}
use Rattle.dg_laws.proofs.Among.{among-filter}
use Rattle.dg_laws.proofs.Ends.{same_end-is, same_end-itself, ends_tell, ends_rank}
use Rattle.dg_cache.specs.declared.entry.Entry.{Entry}
use Rattle.dg_cache.specs.Entries.{ends_of, ends_once, entry_of, others, to_front, put_entry, entries_at, in_order}
use Rattle.dg_cache.specs.Caches.{Cached, IsCached, evicted, holding}
use Rattle.dg_cache.specs.Layout.{IsLaidOut, leaving, ends_leaving, last_end, dropped_for}
use Rattle.dg_cache.proofs.Ends.{outside_one, once_filter, once_front, once_head, once_tail, others_fewer, rise_once}
use Rattle.dg_cache.proofs.Listing.{kept, ends-kept, at_agree, entry-at_all, own_entries, ends-at, ends_front, others_same, front_absent}
use Rattle.dg_cache.proofs.Ordering.{ends-in_order, entry-in_order, in_order-is, in_order-agree, in_order-kept, in_order-front}

pub laid_out-rise : {c : ℕ} {ends : List Endpoint} {values : List Entry} → IsLaidOut c ends values → IsTrue (ends_rise (ends_of values))
laid_out-rise {c} {ends} {values} l = ap ends_rise l.same ∙ ordered-rise ends_rank ends

-- what a layout shows of its entries
pub record IsShown (capacity : ℕ) (ends : List Endpoint) (values : List Entry) (es : List Entry) : Type 0 where
  pub some : 1 ≤ capacity
  pub short : length es ≤ capacity
  pub once : IsTrue (ends_once (ends_of es))
  pub recent : ends ≡ ends_of es
  pub ordered : values ≡ in_order es

pub shown : {c : ℕ} {ends : List Endpoint} {values : List Entry} → IsLaidOut c ends values → IsShown c ends values (entries_at ends values)
shown {c} {ends} {values} l =
    let values_once : IsTrue (ends_once (ends_of values)) = rise_once (ends_of values) (laid_out-rise l) in
    let same : (e : Endpoint) → is_end_among ends e ≡ is_end_among (ends_of values) e = λ e. sym (ap (λ (z : List Endpoint). is_end_among z e) l.same ∙ ordered-among ends_rank ends e) in
    let is : ends_of (entries_at ends values) ≡ ends = ends-at ends values values_once (λ e k. sym (same e) ∙ k) in
    record {
      some = l.some;
      short = let m = ap length is in let n = length-map (entries_at ends values) (λ (x : Entry). x.at) in let s = l.short in omega (arith, m, n, s);
      once = ap ends_once is ∙ l.once;
      recent = sym is;
      ordered = in_order-is values (entries_at ends values) (laid_out-rise l) (λ e. sym (entry-at_all e ends values l.once (same e)));
    }

pub laid_out : {c : ℕ} {ends : List Endpoint} {values es : List Entry} → IsShown c ends values es → IsLaidOut c ends values
laid_out {c} {ends} {values} {es} s = record {
  some = s.some;
  short = let m = ap length s.recent in let n = length-map es (λ (x : Entry). x.at) in let h = s.short in omega (arith, m, n, h);
  once = ap ends_once s.recent ∙ s.once;
  same = ap ends_of s.ordered ∙ ends-in_order es s.once ∙ ap ordered (sym s.recent);
}

pub shows : {c : ℕ} {ends : List Endpoint} {values es : List Entry} → IsShown c ends values es → entries_at ends values ≡ es
shows {c} {ends} {values} {es} s =
    ap (λ (z : List Endpoint). entries_at z values) s.recent ∙ ap (entries_at (ends_of es)) s.ordered
    ∙ at_agree (ends_of es) (in_order es) es (λ e k. entry-in_order es e) ∙ own_entries es s.once

pub nothing_shown : {c : ℕ} → 1 ≤ c → IsShown c [] [] []
nothing_shown some = record { some = some; short = omega arith; once = refl; recent = refl; ordered = refl }

length_kept : (p : Endpoint → Bool) (es : List Entry) → length (kept p es) ≤ length es
length_kept p [] = omega arith
length_kept p (x ∷ es) =
    let rest = length_kept p es in
    elim (p x.at) as (λ b. length (cond b (x ∷ kept p es) (kept p es)) ≤ suc (length es)) [ true ↦ omega (arith, rest) | false ↦ omega (arith, rest) ]

-- the entries that pass a test
pub kept_shown : {c : ℕ} {ends : List Endpoint} {values es : List Entry} (p : Endpoint → Bool) → IsShown c ends values es → IsShown c (filter p ends) (kept p values) (kept p es)
kept_shown {c} {ends} {values} {es} p s = record {
  some = s.some;
  short = let m = length_kept p es in let h = s.short in omega (arith, m, h);
  once = ap ends_once (ends-kept p es) ∙ once_filter p (ends_of es) s.once;
  recent = ap (filter p) s.recent ∙ sym (ends-kept p es);
  ordered = ap (kept p) s.ordered ∙ in_order-kept p es s.once;
}

-- one that is there goes to the front
pub front_shown : {c : ℕ} {ends : List Endpoint} {values es : List Entry} (e : Endpoint) → IsShown c ends values es → is_end_among (ends_of es) e ≡ true →
    IsShown c (e ∷ filter (outside_one e) ends) values (to_front e es)
front_shown {c} {ends} {values} {es} e s there =
    let first = ends_front e es s.once there in
    record {
      some = s.some;
      short =
          let a = ap length first in let b = length-map (to_front e es) (λ (x : Entry). x.at) in let d = length-map es (λ (x : Entry). x.at) in
          let m = others_fewer e (ends_of es) there in let h = s.short in omega (arith, a, b, d, m, h);
      once = ap ends_once first ∙ once_front e (ends_of es) s.once;
      recent = ap (λ (z : List Endpoint). e ∷ filter (outside_one e) z) s.recent ∙ sym first;
      ordered = s.ordered ∙ in_order-front e es s.once;
    }

-- a new one goes to the front, where there is room
pub put_shown : {c : ℕ} {ends : List Endpoint} {values es : List Entry} (x : Entry) → IsShown c ends values es → suc (length (others x.at es)) ≤ c →
    IsShown c (x.at ∷ filter (outside_one x.at) ends) (in_order (x ∷ others x.at values)) (x ∷ others x.at es)
put_shown {c} {ends} {values} {es} x s room =
    let rest = ends-kept (outside_one x.at) es in
    let once : IsTrue (ends_once (ends_of (x ∷ others x.at es))) = ap (λ (z : List Endpoint). ends_once (x.at ∷ z)) rest ∙ once_front x.at (ends_of es) s.once in
    record {
      some = s.some;
      short = room;
      once = once;
      recent = ap (λ (z : List Endpoint). x.at ∷ filter (outside_one x.at) z) s.recent ∙ ap (λ (z : List Endpoint). x.at ∷ z) (sym rest);
      ordered = sym (in_order-agree (x ∷ others x.at es) (x ∷ others x.at values) once (λ e. same e));
    }
  where
    found : (e : Endpoint) → entry_of e (others x.at es) ≡ entry_of e (others x.at values)
    found e =
        sym (entry-in_order (others x.at es) e) ∙ ap (entry_of e) (sym (in_order-kept (outside_one x.at) es s.once))
        ∙ ap (λ (z : List Entry). entry_of e (others x.at z)) (sym s.ordered)

    same : (e : Endpoint) → entry_of e (x ∷ others x.at es) ≡ entry_of e (x ∷ others x.at values)
    same e = ap (λ (z : List Entry). cond (same_end e x.at) (x ∷ z) z) (found e)

leaving_shown : {c : ℕ} {ends : List Endpoint} {values es : List Entry} (gone : Option Endpoint) → IsShown c ends values es →
    IsShown c (ends_leaving gone ends) (leaving gone values) (leaving gone es)
leaving_shown None s = s
leaving_shown (Some e) s = kept_shown (outside_one e) s

-- ---- a cache's layout, with what contracts see

pub record IsHeld (c : ℕ) (ends : List Endpoint) (values : List Entry) (d : Cached) : Type 0 where
  pub capacity : c ≡ d.capacity
  pub shown : IsShown d.capacity ends values d.entries

abbrev pub view_of : ℕ → List Endpoint → List Entry → Cached
view_of c ends values = record { capacity = c; entries = entries_at ends values }

pub held : {c : ℕ} {ends : List Endpoint} {values : List Entry} {d : Cached} → IsLaidOut c ends values → view_of c ends values ≡ d → IsHeld c ends values d
held {c} {ends} {values} {d} l view = record {
  capacity = ap (λ (z : Cached). z.capacity) view;
  shown = subst (λ (z : Cached). IsShown z.capacity ends values z.entries) view (shown l);
}

pub held-layout : {c : ℕ} {ends : List Endpoint} {values : List Entry} {d : Cached} → IsHeld c ends values d → IsLaidOut c ends values
held-layout {c} {ends} {values} {d} h = subst (λ (k : ℕ). IsLaidOut k ends values) (sym h.capacity) (laid_out h.shown)

pub held-view : {c : ℕ} {ends : List Endpoint} {values : List Entry} {d : Cached} → IsHeld c ends values d → view_of c ends values ≡ d
held-view {c} {ends} {values} {d} h =
    ap (λ (k : ℕ). view_of k ends values) h.capacity ∙ ap (λ (z : List Entry). holding d z) (shows h.shown)

pub held-cached : {c : ℕ} {ends : List Endpoint} {values : List Entry} {d : Cached} → IsHeld c ends values d → IsCached d
held-cached h = let s = h.shown in record { some = s.some; short = s.short; once = s.once }

pub held-as : {c : ℕ} {ends ends' : List Endpoint} {values values' : List Entry} {d : Cached} → IsHeld c ends values d → ends' ≡ ends → values' ≡ values → IsHeld c ends' values' d
held-as {c} {ends} {ends'} {values} {values'} {d} h e v =
    subst (λ (z : List Endpoint). IsHeld c z values' d) (sym e) (subst (λ (z : List Entry). IsHeld c ends z d) (sym v) h)

pub held-among : {c : ℕ} {ends : List Endpoint} {values : List Entry} {d : Cached} → IsHeld c ends values d → (e : Endpoint) → is_end_among (ends_of values) e ≡ is_end_among (ends_of d.entries) e
held-among {d = d} h e =
    let s = h.shown in
    ap (λ (z : List Entry). is_end_among (ends_of z) e) s.ordered ∙ ap (λ (z : List Endpoint). is_end_among z e) (ends-in_order d.entries s.once) ∙ ordered-among ends_rank (ends_of d.entries) e

pub held-placed : {c : ℕ} {ends : List Endpoint} {values : List Entry} {d : Cached} → IsHeld c ends values d → (e : Endpoint) → is_end_among ends e ≡ is_end_among (ends_of d.entries) e
held-placed h e = ap (λ (z : List Endpoint). is_end_among z e) h.shown.recent

pub held-kept : {c : ℕ} {ends : List Endpoint} {values : List Entry} {d : Cached} (p : Endpoint → Bool) → IsHeld c ends values d →
    IsHeld c (filter p ends) (kept p values) (holding d (kept p d.entries))
held-kept p h = record { capacity = h.capacity; shown = kept_shown p h.shown }

pub held-front : {c : ℕ} {ends : List Endpoint} {values : List Entry} {d : Cached} (e : Endpoint) → IsHeld c ends values d → is_end_among (ends_of d.entries) e ≡ true →
    IsHeld c (e ∷ filter (outside_one e) ends) values (holding d (to_front e d.entries))
held-front e h there = record { capacity = h.capacity; shown = front_shown e h.shown there }

pub held-length : {c : ℕ} {ends : List Endpoint} {values : List Entry} {d : Cached} → IsHeld c ends values d → length ends ≡ length d.entries
held-length {d = d} h = let s = h.shown in ap length s.recent ∙ length-map d.entries (λ (x : Entry). x.at)

pub held-once : {c : ℕ} {ends : List Endpoint} {values : List Entry} → IsLaidOut c ends values → IsTrue (ends_once (ends_of values))
held-once {c} {ends} {values} l = rise_once (ends_of values) (laid_out-rise l)

-- an endpoint goes to the front, if it is there
pub held-touched : {c : ℕ} {ends : List Endpoint} {values : List Entry} {d : Cached} (e : Endpoint) → IsHeld c ends values d →
    IsHeld c (cond (is_end_among ends e) (e ∷ filter (outside_one e) ends) ends) values (holding d (to_front e d.entries))
held-touched {c} {ends} {values} {d} e h = by_test (is_end_among ends e) (sym (held-placed h e))
  where
    by_test : (b : Bool) → is_end_among (ends_of d.entries) e ≡ b → IsHeld c (cond b (e ∷ filter (outside_one e) ends) ends) values (holding d (to_front e d.entries))
    by_test true there = held-front e h there
    by_test false new = subst (λ (z : List Entry). IsHeld c ends values (holding d z)) (sym (front_absent e d.entries new)) h

-- ---- the last one

pub last-is : (es : List Entry) → slice_get (ends_of es) (length (ends_of es) - 1) ≡ last_end es
last-is [] = refl
last-is (x ∷ []) = refl
last-is (x ∷ y ∷ es) =
    let n = length (ends_of es) in
    let e : suc (suc n) - 1 ≡ suc (suc n - 1) = omega arith in
    ap (λ k. slice_get (x.at ∷ y.at ∷ ends_of es) k) e ∙ last-is (y ∷ es)

last-among : (es : List Entry) (e : Endpoint) → last_end es ≡ Some e → is_end_among (ends_of es) e ≡ true
last-among [] e h = let no : ⊥ = cc in absurd no
last-among (x ∷ []) e h = let is : x.at ≡ e = cc in or_left (same_end e x.at) false (subst (λ (z : Endpoint). same_end e z ≡ true) (sym is) (same_end-itself e))
last-among (x ∷ y ∷ es) e h = or_right (same_end e x.at) (is_end_among (ends_of (y ∷ es)) e) (last-among (y ∷ es) e h)

-- without the last one
pub last-out : (es : List Entry) (e : Endpoint) (n : ℕ) → suc n ≡ length es → IsTrue (ends_once (ends_of es)) → last_end es ≡ Some e → take n es ≡ others e es
last-out [] e n len once h = let no : ⊥ = cc in absurd no
last-out (x ∷ []) e n len once h =
    let is : x.at ≡ e = cc in
    let k : n ≡ 0 = omega (arith, len) in
    let same : same_end e x.at ≡ true = subst (λ (z : Endpoint). same_end e z ≡ true) (sym is) (same_end-itself e) in
    ap (λ (m : ℕ). take m (x ∷ [])) k ∙ sym (ap (λ b. cond (not b) (x ∷ []) []) same)
last-out (x ∷ y ∷ es) e n len once h =
    let k : n ≡ suc (length es) = omega (arith, len) in
    let there = last-among (y ∷ es) e h in
    let other : same_end e x.at ≡ false =
    false_from_ne_true (same_end e x.at) (λ is. true≢false (sym there ∙ ap (is_end_among (ends_of (y ∷ es))) (same_end-is e x.at is) ∙ once_head x.at (ends_of (y ∷ es)) once))
    in
    ap (λ (m : ℕ). take m (x ∷ y ∷ es)) k
    ∙ ap (λ (z : List Entry). x ∷ z) (last-out (y ∷ es) e (length es) refl (once_tail x.at (ends_of (y ∷ es)) once) h)
    ∙ sym (ap (λ b. cond (not b) (x ∷ others e (y ∷ es)) (others e (y ∷ es))) other)

pub evicted-one : (es : List Entry) (e : Endpoint) → IsTrue (ends_once (ends_of es)) → last_end es ≡ Some e → others e es ≡ evicted 1 es
evicted-one [] e once h = let no : ⊥ = cc in absurd no
evicted-one (x ∷ es) e once h =
    let k : suc (length es) - 1 ≡ length es = omega arith in
    sym (ap (λ (m : ℕ). take m (x ∷ es)) k ∙ last-out (x ∷ es) e (length es) refl once h)

pub last-there : (es : List Entry) (e : Endpoint) → last_end es ≡ Some e → is_end_among (ends_of es) e ≡ true
last-there es e h = last-among es e h

last-nothing : (x : Entry) (es : List Entry) → last_end (x ∷ es) ≡ None → ⊥
last-nothing x [] h = cc
last-nothing x (y ∷ es) h = last-nothing y es h

pub last-none : (es : List Entry) → last_end es ≡ None → es ≡ []
last-none [] h = refl
last-none (x ∷ es) h = absurd (last-nothing x es h)

pub last-long : (es : List Entry) (e : Endpoint) → last_end es ≡ Some e → 0 < length es
last-long [] e h = let no : ⊥ = cc in absurd no
last-long (x ∷ es) e h = omega arith

pub take-whole : (n : ℕ) (es : List Entry) → length es ≤ n → take n es ≡ es
take-whole zero [] h = refl
take-whole zero (x ∷ es) h = absurd (omega (arith, h))
take-whole (suc n) [] h = refl
take-whole (suc n) (x ∷ es) h = ap (λ (z : List Entry). x ∷ z) (take-whole n es (omega (arith, h)))

-- one more evicted
pub evicted-more : (g : ℕ) (es : List Entry) → evicted 1 (evicted g es) ≡ evicted (g + 1) es
evicted-more g es =
    let l = length-take (length es - g) es in
    let m : length (evicted g es) - 1 ≡ length es - (g + 1) = omega (arith, l) in
    let le : length es - (g + 1) ≤ length es - g = omega arith in
    ap (λ (k : ℕ). take k (evicted g es)) m ∙ take-take (length es - (g + 1)) (length es - g) es le

pub evicted-none : (es : List Entry) → evicted 0 es ≡ es
evicted-none es = take-whole (length es - 0) es (omega arith)

pub evicted-empty : (g : ℕ) (es : List Entry) → evicted g es ≡ [] → length es ≤ g
evicted-empty g es h = let l = length-take (length es - g) es in let n = ap length h in omega (arith, l, n)

-- ---- what goes where one is put

pub record IsRoom (capacity : ℕ) (x : Entry) (es : List Entry) (gone : Option Endpoint) : Type 0 where
  pub room : suc (length (others x.at (leaving gone es))) ≤ capacity
  pub is : x ∷ others x.at (leaving gone es) ≡ put_entry capacity x es

room_made : (capacity : ℕ) (x : Entry) (es : List Entry) → length (others x.at es) < capacity → IsRoom capacity x es None
room_made capacity x es h = record { room = omega (arith, h); is = sym (take-whole capacity (x ∷ others x.at es) (omega (arith, h))) }

room_full : (capacity : ℕ) (x : Entry) (es : List Entry) (e : Endpoint) (n : ℕ) → suc n ≡ length es → length es ≡ capacity → IsTrue (ends_once (ends_of es)) →
    is_end_among (ends_of es) x.at ≡ false → last_end es ≡ Some e → IsRoom capacity x es (Some e)
room_full capacity x es e n len full once new last =
    let out = last-out es e n len once last in
    let absent : is_end_among (ends_of (others e es)) x.at ≡ false = ap (λ (z : List Endpoint). is_end_among z x.at) (ends-kept (outside_one e) es) ∙ among-filter ends_tell (outside_one e) (ends_of es) x.at ∙ ap (λ b. b && outside_one e x.at) new in
    let same = others_same x.at (others e es) absent in
    let size = ap length out in
    let l = length-take n es in
    let shorter = ap length same in
    let k : capacity ≡ suc n = omega (arith, len, full) in
    record {
      room = omega (arith, shorter, size, l, len, full);
      is =
          ap (λ (z : List Entry). x ∷ z) (same ∙ sym out) ∙ sym (ap (λ (m : ℕ). take m (x ∷ others x.at es)) k ∙ ap (λ (z : List Entry). x ∷ take n z) (others_same x.at es new));
    }

pub room_for : (c : Cached) (x : Entry) → IsCached c → IsRoom c.capacity x c.entries (dropped_for c x.at)
room_for c x s = by_test (is_end_among (ends_of c.entries) x.at) (nat_lt (length c.entries) c.capacity) refl refl
  where
    by_last : (o : Option Endpoint) → last_end c.entries ≡ o → is_end_among (ends_of c.entries) x.at ≡ false → c.capacity ≤ length c.entries → IsRoom c.capacity x c.entries o
    by_last None h new full = let e = ap length (last-none c.entries h) in let k = s.some in absurd (omega (arith, e, k, full))
    by_last (Some e) h new full =
        let k = s.some in let m = s.short in
        room_full c.capacity x c.entries e (length c.entries - 1) (omega (arith, k, m, full)) (omega (arith, m, full)) s.once new h

    by_test : (a b : Bool) → is_end_among (ends_of c.entries) x.at ≡ a → nat_lt (length c.entries) c.capacity ≡ b → IsRoom c.capacity x c.entries (cond (a || b) None (last_end c.entries))
    by_test true b there test =
        let fewer = others_fewer x.at (ends_of c.entries) there in
        let l = ap length (ends-kept (outside_one x.at) c.entries) in
        let m = length-map (others x.at c.entries) (λ (y : Entry). y.at) in
        let n = length-map c.entries (λ (y : Entry). y.at) in
        let k = s.short in
        room_made c.capacity x c.entries (omega (arith, fewer, l, m, n, k))
    by_test false true new test =
        let l = ltb-true (length c.entries) c.capacity test in
        let m = length_kept (outside_one x.at) c.entries in
        room_made c.capacity x c.entries (omega (arith, l, m))
    by_test false false new test = by_last (last_end c.entries) refl new (ltb-false (length c.entries) c.capacity test)

-- one is put, after the one that goes for it
held-put_over : {c : ℕ} {ends : List Endpoint} {values : List Entry} {d : Cached} (x : Entry) (gone : Option Endpoint) → IsHeld c ends values d → gone ≡ dropped_for d x.at →
    IsHeld c (x.at ∷ filter (outside_one x.at) (ends_leaving gone ends)) (in_order (x ∷ others x.at (leaving gone values))) (holding d (put_entry d.capacity x d.entries))
held-put_over {c} {ends} {values} {d} x gone h is =
    let r : IsRoom d.capacity x d.entries gone = subst (IsRoom d.capacity x d.entries) (sym is) (room_for d x (held-cached h)) in
    record {
      capacity = h.capacity;
      shown =
          subst (IsShown d.capacity (x.at ∷ filter (outside_one x.at) (ends_leaving gone ends)) (in_order (x ∷ others x.at (leaving gone values)))) r.is
          (put_shown x (leaving_shown gone h.shown) r.room);
    }

ends-put : (capacity : ℕ) (x : Entry) (es : List Entry) → ends_of (put_entry capacity x es) ≡ take capacity (x.at ∷ filter (outside_one x.at) (ends_of es))
ends-put capacity x es =
    sym (take-map (λ (y : Entry). y.at) capacity (x ∷ others x.at es)) ∙ ap (λ (z : List Endpoint). take capacity (x.at ∷ z)) (ends-kept (outside_one x.at) es)

-- one is put: the endpoints are cut to the capacity, and of the entries the one goes that gets no place
pub held-put : {c : ℕ} {ends : List Endpoint} {values : List Entry} {d : Cached} (x : Entry) (gone : Option Endpoint) → IsHeld c ends values d → gone ≡ dropped_for d x.at →
    IsHeld c (take c (x.at ∷ filter (outside_one x.at) ends)) (in_order (x ∷ others x.at (leaving gone values))) (holding d (put_entry d.capacity x d.entries))
held-put {c} {ends} {values} {d} x gone h is =
    let over = held-put_over x gone h is in
    held-as over
    (ap (λ (k : ℕ). take k (x.at ∷ filter (outside_one x.at) ends)) h.capacity
    ∙ ap (λ (z : List Endpoint). take d.capacity (x.at ∷ filter (outside_one x.at) z)) h.shown.recent
    ∙ sym (ends-put d.capacity x d.entries) ∙ sym over.shown.recent)
    refl
