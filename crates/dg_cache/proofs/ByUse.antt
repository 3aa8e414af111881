-- What changes of an order by use make of its endpoints.
use Rattle.std.proofs.Common.{◌≡◌, ℕ, zero, suc, ◌-◌, ◌≤◌, ◌||◌, Bool, true, false, not, cond, List, [], ◌∷◌, Option, Some, None, filter, is_some, length, take, IsTrue, refl, sym, ap, ◌∙◌, arith}
use Rattle.std.proofs.lemmas.List.{take_all, take-map}
use Rattle.std.specs.Map.{keys_of, lookup, lookup_entry, remove_entry}
use Rattle.std.specs.Option.{option_map_or}
use Rattle.lru.specs.LruCache.{LruCache, promoted, put_entries}
use Rattle.lru.proofs.CallerLemmas.{Contains-lookup_entry}
use Rattle.dg_base.specs.declared.ids.Endpoint.{Endpoint}
use Rattle.dg_base.specs.Same.{same_end}
use Rattle.dg_base.specs.Order.{is_end_among}
use Rattle.dg_laws.proofs.Ends.{same_end-is}
use Rattle.dg_cache.specs.Entries.{ends_once}
use Rattle.dg_cache.proofs.Ends.{outside_one, once_head, once_tail, others_all, others_fewer}

abbrev pub Placed : Type 0
Placed = List (Endpoint × Unit {0})

pub found-among : (e : Endpoint) (ls : Placed) → is_some (lookup (same_end e) ls) ≡ is_end_among (keys_of ls) e
found-among e [] = refl
found-among e (p ∷ ls) =
    let rest = found-among e ls in
    elim (same_end e p.0) as (λ b. is_some (cond b (Some p.1) (lookup (same_end e) ls)) ≡ (b || is_end_among (keys_of ls) e)) [ true ↦ refl | false ↦ rest ]

entry-among : (e : Endpoint) (ls : Placed) → is_some (lookup_entry (same_end e) ls) ≡ is_end_among (keys_of ls) e
entry-among e [] = refl
entry-among e (p ∷ ls) =
    let rest = entry-among e ls in
    elim (same_end e p.0) as (λ b. is_some (cond b (Some p) (lookup_entry (same_end e) ls)) ≡ (b || is_end_among (keys_of ls) e)) [ true ↦ refl | false ↦ rest ]

entry-key : (e : Endpoint) (ls : Placed) (p : Endpoint × Unit {0}) → lookup_entry (same_end e) ls ≡ Some p → p.0 ≡ e
entry-key e ls p h = sym (same_end-is e p.0 (Contains-lookup_entry (same_end e) ls p h).1)

-- without an endpoint
pub keys-removed : (e : Endpoint) (ls : Placed) → IsTrue (ends_once (keys_of ls)) → keys_of (remove_entry (same_end e) ls) ≡ filter (outside_one e) (keys_of ls)
keys-removed e [] once = refl
keys-removed e (p ∷ ls) once = by_test (same_end e p.0) refl (once_head p.0 (keys_of ls) once) (keys-removed e ls (once_tail p.0 (keys_of ls) once))
  where
    by_test : (b : Bool) → same_end e p.0 ≡ b → is_end_among (keys_of ls) p.0 ≡ false → keys_of (remove_entry (same_end e) ls) ≡ filter (outside_one e) (keys_of ls) →
        keys_of (cond b ls (p ∷ remove_entry (same_end e) ls)) ≡ cond (not b) (p.0 ∷ filter (outside_one e) (keys_of ls)) (filter (outside_one e) (keys_of ls))
    by_test true is absent rest = sym (others_all e (keys_of ls) (ap (is_end_among (keys_of ls)) (same_end-is e p.0 is) ∙ absent))
    by_test false is absent rest = ap (λ (z : List Endpoint). p.0 ∷ z) rest

first-removed : (e : Endpoint) (ls : Placed) (p : Endpoint × Unit {0}) → IsTrue (ends_once (keys_of ls)) → lookup_entry (same_end e) ls ≡ Some p →
    p.0 ∷ keys_of (remove_entry (same_end e) ls) ≡ e ∷ filter (outside_one e) (keys_of ls)
first-removed e ls p once is = ap (λ (z : Endpoint). z ∷ keys_of (remove_entry (same_end e) ls)) (entry-key e ls p is) ∙ ap (λ (z : List Endpoint). e ∷ z) (keys-removed e ls once)

-- an endpoint that is there goes to the front
pub keys-promoted : (e : Endpoint) (ls : Placed) → IsTrue (ends_once (keys_of ls)) →
    keys_of (promoted (same_end e) ls) ≡ cond (is_end_among (keys_of ls) e) (e ∷ filter (outside_one e) (keys_of ls)) (keys_of ls)
keys-promoted e ls once =
    by_entry (lookup_entry (same_end e) ls) refl ∙ ap (λ b. cond b (e ∷ filter (outside_one e) (keys_of ls)) (keys_of ls)) (entry-among e ls)
  where
    by_entry : (o : Option (Endpoint × Unit {0})) → lookup_entry (same_end e) ls ≡ o →
        keys_of (option_map_or (λ p. p ∷ remove_entry (same_end e) ls) o ls) ≡ cond (is_some o) (e ∷ filter (outside_one e) (keys_of ls)) (keys_of ls)
    by_entry None is = refl
    by_entry (Some p) is = first-removed e ls p once is

-- an endpoint is put, and the last one goes where there is no room for it
pub keys-put : (e : Endpoint) (order : LruCache Endpoint (Unit {0})) → 1 ≤ order.cap → IsTrue (ends_once (keys_of order.entries)) → length (keys_of order.entries) ≤ order.cap →
    keys_of (put_entries same_end order e tt) ≡ take order.cap (e ∷ filter (outside_one e) (keys_of order.entries))
keys-put e order some once short = by_entry (lookup_entry (same_end e) order.entries) refl
  where
    ends : List Endpoint
    ends = keys_of order.entries

    cut : (n : ℕ) → 1 ≤ n → e ∷ keys_of (take (n - 1) order.entries) ≡ take n (e ∷ ends)
    cut zero h = absurd (omega (arith, h))
    cut (suc n) h = let k : suc n - 1 ≡ n = omega arith in ap (λ m. e ∷ keys_of (take m order.entries)) k ∙ ap (λ (z : List Endpoint). e ∷ z) (sym (take-map (λ (p : Endpoint × Unit {0}). p.0) n order.entries))

    by_entry : (o : Option (Endpoint × Unit {0})) → lookup_entry (same_end e) order.entries ≡ o →
        keys_of (option_map_or (λ p. (p.0, tt) ∷ remove_entry (same_end e) order.entries) o ((e, tt) ∷ take (order.cap - 1) order.entries)) ≡ take order.cap (e ∷ filter (outside_one e) ends)
    by_entry None is =
        let absent : is_end_among ends e ≡ false = sym (entry-among e order.entries) ∙ ap is_some is in
        cut order.cap some ∙ ap (λ (z : List Endpoint). take order.cap (e ∷ z)) (sym (others_all e ends absent))
    by_entry (Some p) is =
        let there : is_end_among ends e ≡ true = sym (entry-among e order.entries) ∙ ap is_some is in
        let fewer = others_fewer e ends there in
        first-removed e order.entries p once is ∙ sym (take_all order.cap (e ∷ filter (outside_one e) ends) (omega (arith, fewer, short)))
