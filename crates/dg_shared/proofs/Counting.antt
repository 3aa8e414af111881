-- What the records of a history tell is what was made.
use Rattle.std.proofs.Common.{◌≡◌, ◌+◌, List, [], ◌∷◌, cond, refl, sym, ap, ◌∙◌, arith}
use Rattle.std.specs.List.{count_by}
use Rattle.std.proofs.lemmas.List.Sums.{sum_by-cons}
use Rattle.dg_asks.specs.Told.{evictions_in, evictions_told, follows_in, follows_told}
use Rattle.dg_desk.specs.declared.event.What.TheVariants as what
use Rattle.dg_desk.specs.Machine.{Act, Event}
use Rattle.dg_room.specs.Made.{is_eviction, is_follow}

one-follow : {T M : Type 0} (w : Act T M) → follows_in w ≡ cond (is_follow w) 1 0
one-follow (what.Follow link a) = refl
one-follow (what.Publish o a) = refl
one-follow (what.Evict most a) = refl
one-follow (what.Settle to) = refl

one-eviction : {T M : Type 0} (w : Act T M) → evictions_in w ≡ cond (is_eviction w) 1 0
one-eviction (what.Follow link a) = refl
one-eviction (what.Publish o a) = refl
one-eviction (what.Evict most a) = refl
one-eviction (what.Settle to) = refl

pub follows-counted : {T M : Type 0} (hs : List (Event T M)) → follows_told hs ≡ count_by (λ (e : Event T M). is_follow e.what) hs
follows-counted [] = refl
follows-counted {T} {M} (e ∷ es) =
    let rest = follows-counted es in let one = one-follow e.what in
    let a = sum_by-cons (λ (x : Event T M). follows_in x.what) e es in
    let b = sum_by-cons (λ (x : Event T M). cond (is_follow x.what) 1 0) e es in
    omega (arith, rest, one, a, b)

pub evictions-counted : {T M : Type 0} (hs : List (Event T M)) → evictions_told hs ≡ count_by (λ (e : Event T M). is_eviction e.what) hs
evictions-counted [] = refl
evictions-counted {T} {M} (e ∷ es) =
    let rest = evictions-counted es in let one = one-eviction e.what in
    let a = sum_by-cons (λ (x : Event T M). evictions_in x.what) e es in
    let b = sum_by-cons (λ (x : Event T M). cond (is_eviction x.what) 1 0) e es in
    omega (arith, rest, one, a, b)
