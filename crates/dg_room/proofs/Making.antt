-- A history in which all steps are follows, and passes with one pass more.
use Rattle.std.proofs.Common.{◌≡◌, ◌+◌, ◌≤◌, ◌<◌, List, [], ◌∷◌, ◌++◌, Bool, cond, filter, length, refl, sym, ap, ◌∙◌, arith}
use Rattle.std.specs.List.{count_by}
use Rattle.std.proofs.lemmas.List.Sums.{length-filter, sum_by-cons}
use Rattle.dg_base.specs.declared.limits.TheConstants.{REVISIONS}
use Rattle.dg_desk.specs.declared.event.What.TheVariants as what
use Rattle.dg_desk.specs.Desks.{is_step, spare}
use Rattle.dg_desk.specs.Machine.{Act, Event}
use Rattle.dg_room.specs.Made.{Has, Made, Passed, is_eviction, is_publication, none_made, plus, sum_of}

sort_one : {A B : Type 0} (w : Act A B) → cond (is_step w) 1 0 + cond (is_publication w) 1 0 + cond (is_eviction w) 1 0 ≡ 1
sort_one (what.Follow link a) = refl
sort_one (what.Publish o a) = refl
sort_one (what.Evict most a) = refl
sort_one (what.Settle to) = refl

counted : {X : Type 0} (p : X → Bool) (x : X) (xs : List X) → count_by p (x ∷ xs) ≡ cond (p x) 1 0 + count_by p xs
counted p x xs = sum_by-cons (λ y. cond (p y) 1 0) x xs

-- each record is a step, a publication or an eviction
sorts : {A B : Type 0} (hs : List (Event A B)) → count_by (λ (x : Event A B). is_step x.what) hs + count_by (λ (x : Event A B). is_publication x.what) hs + count_by (λ (x : Event A B). is_eviction x.what) hs ≡ length hs
sorts [] = refl
sorts {A} {B} (e ∷ es) =
    let one = sort_one e.what in let rest = sorts es in
    let s = counted (λ (x : Event A B). is_step x.what) e es in
    let p = counted (λ (x : Event A B). is_publication x.what) e es in
    let d = counted (λ (x : Event A B). is_eviction x.what) e es in
    omega (arith, one, rest, s, p, d)

-- a desk has room for one more follow as long as there were fewer than there are revisions
pub has-spare : {A B : Type 0} (hs : List (Event A B)) (m : Made) → Has hs m → m.follows < REVISIONS → 1 ≤ spare hs
has-spare {A} {B} hs m h few =
    let all = sorts hs in let steps = length-filter (λ (x : Event A B). is_step x.what) hs in
    let p = ap (λ (z : Made). z.publications) h.made in let e = ap (λ (z : Made). z.evictions) h.made in let only = h.only in
    let count : length (filter (λ (x : Event A B). is_step x.what) hs) ≡ m.follows = omega (arith, all, steps, p, e, only) in
    omega (arith, count, few)

-- ---- one pass more

same_made : (m w : Made) → m.follows ≡ w.follows → m.publications ≡ w.publications → m.evictions ≡ w.evictions → m ≡ w
same_made m w a b c = λ i. record { follows = a i; publications = b i; evictions = c i }

plus-assoc : (m w v : Made) → plus (plus m w) v ≡ plus m (plus w v)
plus-assoc m w v = same_made _ _ (omega arith) (omega arith) (omega arith)

plus-comm : (m w : Made) → plus m w ≡ plus w m
plus-comm m w = same_made _ _ (omega arith) (omega arith) (omega arith)

pub sum_of-snoc : (ps : List Passed) (p : Passed) → sum_of (ps ++ p ∷ []) ≡ plus (sum_of ps) p.made
sum_of-snoc [] p = plus-comm p.made none_made
sum_of-snoc (x ∷ ps) p = ap (plus x.made) (sum_of-snoc ps p) ∙ sym (plus-assoc x.made (sum_of ps) p.made)
