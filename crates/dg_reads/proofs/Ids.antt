-- The ids of nodes, read one after the other.
use Rattle.std.proofs.Common.{◌≡◌, ℕ, zero, suc, ◌+◌, ◌-◌, ◌<◌, Bool, true, false, cond, List, [], ◌∷◌, ◌++◌, Option, Some, None, map, filter, flat_map, length, drop, slice_get, refl, sym, ap, ◌∙◌, arith, append_assoc}
use Rattle.std.proofs.lemmas.List.{append-nil, length-append}
use Rattle.dg_base.specs.declared.ids.NodeId.{NodeId}
use Rattle.dg_base.specs.declared.graph.Node.{Node}
use Rattle.dg_base.specs.Graph.{id_of}

abbrev pub ids_of : List Node → List NodeId
ids_of xs = map (λ x. x.id) xs

id_inside : (x : Node) (n : NodeId) → id_of (Some x) ≡ Some n → x.id ≡ n
id_inside x n e = cc

ids_from : (xs : List Node) (i : ℕ) (n : NodeId) → id_of (slice_get xs i) ≡ Some n → ids_of (drop i xs) ≡ n ∷ ids_of (drop (suc i) xs)
ids_from [] i n e = let nothing : ⊥ = cc in absurd nothing
ids_from (x ∷ xs) zero n e = ap (λ (m : NodeId). m ∷ ids_of xs) (id_inside x n e)
ids_from (x ∷ xs) (suc i) n e = ids_from xs i n e

no_more : (xs : List Node) (i : ℕ) → id_of (slice_get xs i) ≡ None → ids_of (drop i xs) ≡ []
no_more [] zero e = refl
no_more [] (suc i) e = refl
no_more (x ∷ xs) zero e = let nothing : ⊥ = cc in absurd nothing
no_more (x ∷ xs) (suc i) e = no_more xs i e

id_within : (xs : List Node) (i : ℕ) (n : NodeId) → id_of (slice_get xs i) ≡ Some n → i < length xs
id_within [] i n e = let nothing : ⊥ = cc in absurd nothing
id_within (x ∷ xs) zero n e = omega arith
id_within (x ∷ xs) (suc i) n e = let rest : i < length xs = id_within xs i n e in omega (arith, rest)

more_ids : (new ids : List NodeId) (n : NodeId) → new ≡ ids ++ n ∷ [] → length new ≡ suc (length ids)
more_ids new ids n e =
    let one : length (ids ++ n ∷ []) ≡ length ids + 1 = length-append ids (n ∷ []) in
    ap (λ (z : List NodeId). length z) e ∙ omega (arith, one)

-- what was read at the place behind the ids so far
pub read_behind : (xs : List Node) (ids : List NodeId) (place : ℕ) (found is : Option NodeId) → place ≡ length ids → found ≡ id_of (slice_get xs place) → found ≡ is →
    id_of (slice_get xs (length ids)) ≡ is
read_behind xs ids place found is at e f = ap (λ (i : ℕ). id_of (slice_get xs i)) (sym at) ∙ sym e ∙ f

-- one id more
pub one_more : (xs : List Node) (ids new : List NodeId) (n : NodeId) → id_of (slice_get xs (length ids)) ≡ Some n → new ≡ ids ++ n ∷ [] →
    ids ++ ids_of (drop (length ids) xs) ≡ ids_of xs → new ++ ids_of (drop (length new) xs) ≡ ids_of xs
one_more xs ids new n at is so_far =
    ap (λ (k : ℕ). new ++ ids_of (drop k xs)) (more_ids new ids n is)
    ∙ ap (λ (z : List NodeId). z ++ ids_of (drop (suc (length ids)) xs)) is
    ∙ append_assoc ids (n ∷ []) (ids_of (drop (suc (length ids)) xs))
    ∙ ap (λ (z : List NodeId). ids ++ z) (sym (ids_from xs (length ids) n at))
    ∙ so_far

pub fewer_left : (xs : List Node) (ids new : List NodeId) (n : NodeId) → id_of (slice_get xs (length ids)) ≡ Some n → new ≡ ids ++ n ∷ [] →
    length xs - length new < length xs - length ids
fewer_left xs ids new n at is =
    let within : length ids < length xs = id_within xs (length ids) n at in
    let more : length new ≡ suc (length ids) = more_ids new ids n is in
    omega (arith, within, more)

-- tests and lists by id, over nodes and over their ids
pub filter-ids : (p : NodeId → Bool) (xs : List Node) → filter p (ids_of xs) ≡ ids_of (filter (λ x. p x.id) xs)
filter-ids p [] = refl
filter-ids p (x ∷ xs) = by_test (p x.id) (filter-ids p xs)
  where
    by_test : (b : Bool) → filter p (ids_of xs) ≡ ids_of (filter (λ x. p x.id) xs) →
        cond b (x.id ∷ filter p (ids_of xs)) (filter p (ids_of xs)) ≡ ids_of (cond b (x ∷ filter (λ x. p x.id) xs) (filter (λ x. p x.id) xs))
    by_test true rest = ap (λ (z : List NodeId). x.id ∷ z) rest
    by_test false rest = rest

pub flat_map-ids : {Y : Type 0} (f : NodeId → List Y) (xs : List Node) → flat_map f (ids_of xs) ≡ flat_map (λ x. f x.id) xs
flat_map-ids f [] = refl
flat_map-ids {Y} f (x ∷ xs) = ap (λ (z : List Y). f x.id ++ z) (flat_map-ids f xs)

-- all are read where there is none behind them
pub all_read : (xs : List Node) (ids : List NodeId) → id_of (slice_get xs (length ids)) ≡ None → ids ++ ids_of (drop (length ids) xs) ≡ ids_of xs → ids ≡ ids_of xs
all_read xs ids none so_far = sym (append-nil ids) ∙ ap (λ (z : List NodeId). ids ++ z) (sym (no_more xs (length ids) none)) ∙ so_far
