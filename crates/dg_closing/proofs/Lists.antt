-- A list that is read one by one.
use Rattle.std.proofs.Common.{◌≡◌, ◌⊎◌, ℕ, zero, suc, ◌+◌, ◌==◌, ◌<◌, ◌≤◌, ◌&&◌, Bool, true, false, List, [], ◌∷◌, ◌++◌, Option, Some, None, IfSome, Result, Ok, Err, OnOk, get_or, length, slice_get, take, Contains, refl, sym, ap, ◌∙◌, subst, inl, inr, arith, true≢false}
use Rattle.std.proofs.lemmas.Bool.Decides.{nat_tests}
use Rattle.std.proofs.lemmas.Grind.{take_at_read}
use Rattle.std.proofs.lemmas.List.{map-append, take_all}
use Rattle.std.proofs.lemmas.List.Elements.{Contains-append_left, Contains-push, Contains-push_cases}
use Rattle.dg_base.specs.declared.ids.Endpoint.{Endpoint}
use Rattle.dg_base.specs.Same.{same_end}
use Rattle.dg_cache.specs.declared.entry.Entry.{Entry}
use Rattle.dg_laws.proofs.Ends.{ends_tell}
use Rattle.dg_laws.proofs.Members.{list_any_gives}
use Rattle.dg_line.specs.Revisions.{Seen, counter_at}
use Rattle.dg_asks.specs.declared.asking.Asking.{Asking}
use Rattle.dg_asks.specs.Asks.{Ask, asking_ask}
use Rattle.dg_closing.specs.Closing.{asks_of}
use Rattle.dg_closing.specs.declared.spots.Spot.{Spot}
use Rattle.dg_closing.specs.Spots.{HasSpot, is_spot_among, same_spot, spot_of}

pub take-next : {X : Type 0} (xs : List X) (i : ℕ) (x : X) → x ≡ get_or xs i x → i < length xs → take (i + 1) xs ≡ take i xs ++ x ∷ []
take-next xs i x is lt = (take_at_read xs i x lt).1 ∙ ap (λ e. take i xs ++ e ∷ []) (sym is)

-- what holds of those so far and of the next one holds of all up to it
pub all-next : {X : Type 0} (P : X → Type 0) (xs : List X) (i : ℕ) (x : X) → x ≡ get_or xs i x → i < length xs → ((y : X) → Contains (take i xs) y → P y) → P x →
    (y : X) → Contains (take (i + 1) xs) y → P y
all-next P xs i x is lt old new y c =
    elim (Contains-push_cases (take i xs) x y (subst (λ l. Contains l y) (take-next xs i x is lt) c)) [ inl before ↦ old y before | inr same ↦ subst P same new ]

pub all-next-at : {X : Type 0} (P : X → Type 0) (xs : List X) (i : ℕ) (d : X) → i < length xs → ((y : X) → Contains (take i xs) y → P y) → P (get_or xs i d) →
    (y : X) → Contains (take (i + 1) xs) y → P y
all-next-at P xs i d lt old new y c =
    elim (Contains-push_cases (take i xs) (get_or xs i d) y (subst (λ l. Contains l y) (take_at_read xs i d lt).1 c)) [ inl before ↦ old y before | inr same ↦ subst P same new ]

pub all-end : {X : Type 0} (P : X → Type 0) (xs : List X) (i : ℕ) → length xs ≤ i → ((y : X) → Contains (take i xs) y → P y) → (y : X) → Contains xs y → P y
all-end P xs i end all y c = all y (subst (λ l. Contains l y) (sym (take_all i xs end)) c)

equal-from : (a b : ℕ) → (a == b) ≡ true → a ≡ b
equal-from a b h = grind (arith, nat_tests)

and-true : (a b : Bool) → (a && b) ≡ true → (a ≡ true) × (b ≡ true)
and-true true b h = (refl, h)
and-true false b h = absurd (true≢false (sym h))

same_spot-is : (a b : Spot) → same_spot a b ≡ true → a ≡ b
same_spot-is a b h =
    let both = and-true (same_end a.at b.at) (a.counter == b.counter) h in
    let at = ends_tell.is a.at b.at both.0 in
    let counter = equal-from a.counter b.counter both.1 in
    λ i. record { at = at i; counter = counter i }

pub spot-found : (ss : List Spot) (s : Spot) → is_spot_among ss s ≡ true → Contains ss s
spot-found ss s h = let y = list_any_gives (same_spot s) ss h in subst (Contains ss) (sym (same_spot-is s y.0 y.2)) y.1

-- an endpoint is found with its counter in a revision
pub spot-known : (ss : List Spot) (r : Seen) (e : Endpoint) (n : ℕ) → n ≡ counter_at r e → true ≡ is_spot_among ss (record { at = e; counter = n }) → Contains ss (spot_of r e)
spot-known ss r e n is found = subst (λ (k : ℕ). Contains ss (record { at = e; counter = k })) is (spot-found ss (record { at = e; counter = n }) (sym found))

-- spots that are noted, entry by entry
pub spots-next : (r : Seen) (es : List Entry) (i : ℕ) (x : Entry) (old before now : List Spot) (spot : Spot) → x ≡ get_or es i x → i < length es → spot ≡ spot_of r x.at →
    ((s : Spot) → Contains before s → Contains old s ⊎ HasSpot r (take i es) s) → ((s : Spot) → Contains now s → Contains before s ⊎ (s ≡ spot)) →
    (s : Spot) → Contains now s → Contains old s ⊎ HasSpot r (take (i + 1) es) s
spots-next r es i x old before now spot is lt spot_is so_far new s c = elim (new s c) [
  | inl there ↦ elim (so_far s there) [
    | inl first ↦ inl first
    | inr has ↦ inr (record { entry = has.entry; among = subst (λ l. Contains l has.entry) (sym (take-next es i x is lt)) (Contains-append_left (take i es) (x ∷ []) has.entry has.among); is = has.is })
  ]
  | inr same ↦ inr (record { entry = x; among = subst (λ l. Contains l x) (sym (take-next es i x is lt)) (Contains-push (take i es) x); is = same ∙ spot_is })
]

pub spots-end : (r : Seen) (es : List Entry) (i : ℕ) (old now : List Spot) → length es ≤ i → ((s : Spot) → Contains now s → Contains old s ⊎ HasSpot r (take i es) s) →
    (s : Spot) → Contains now s → Contains old s ⊎ HasSpot r es s
spots-end r es i old now end all = subst (λ l. (s : Spot) → Contains now s → Contains old s ⊎ HasSpot r l s) (take_all i es end) all

-- ---- results

pub on-ok : {X E P Q : Type 0} (r : Result X E) → OnOk r P → (P → Q) → OnOk r Q
on-ok (Ok x) p f = f p
on-ok (Err e) p f = tt

pub ok-any : {X E Q : Type 0} (r : Result X E) → Q → OnOk r Q
ok-any (Ok x) q = q
ok-any (Err e) q = tt

pub slice-at : {X : Type 0} (xs : List X) (i : ℕ) (x : X) → x ≡ get_or xs i x → i < length xs → slice_get xs i ≡ Some x
slice-at [] i x is lt = absurd (omega (arith, lt))
slice-at (y ∷ ys) zero x is lt = ap Some (sym is)
slice-at (y ∷ ys) (suc i) x is lt = slice-at ys i x is (omega (arith, lt))

pub if-some : {X : Type 0} {P Q : X → Type 0} (o : Option X) → IfSome o P → ((x : X) → P x → Q x) → IfSome o Q
if-some (Some x) p f = f x p
if-some None p f = tt

-- an answer more is that of the next ask
pub asks-next : {M : Type 0} (asked : List (Asking M Seen)) (i : ℕ) (x : Asking M Seen) (a : Ask) (before now : List Ask) → x ≡ get_or asked i x → i < length asked → a ≡ asking_ask x →
    before ≡ asks_of (take i asked) → now ≡ before ++ a ∷ [] → now ≡ asks_of (take (i + 1) asked)
asks-next {M} asked i x a before now is lt answer so_far push =
    push ∙ ap (λ (l : List Ask). l ++ a ∷ []) so_far ∙ ap (λ (q : Ask). asks_of (take i asked) ++ q ∷ []) answer
    ∙ sym (map-append asking_ask (take i asked) (x ∷ []))
    ∙ sym (ap (λ (l : List (Asking M Seen)). asks_of l) (take-next asked i x is lt))
