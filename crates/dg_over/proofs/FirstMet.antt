-- Meeting the nodes of a list one after another leaves the first ones of each.
use Rattle.std.proofs.Common.{◌≡◌, ◌∙◌, Bool, true, false, not, cond, ◌&&◌, ◌||◌, List, [], ◌∷◌, ◌++◌, fold, filter, refl, sym, ap, append_assoc}
use Rattle.std.proofs.lemmas.List.{append-nil}
use Rattle.dg_base.specs.declared.ids.NodeId.{NodeId}
use Rattle.dg_base.specs.Same.{same_node}
use Rattle.dg_base.specs.Order.{is_node_among}
use Rattle.dg_base.specs.Populate.{firsts}
use Rattle.dg_laws.proofs.Among.{same-swap, among-push}
use Rattle.dg_laws.proofs.Ids.{same_node-is, nodes_tell}
use Rattle.dg_over.specs.Met.{meet}

-- two tests one after another are one
filter_twice : (p q r : NodeId → Bool) → ((x : NodeId) → r x ≡ (q x && p x)) → (xs : List NodeId) → filter p (filter q xs) ≡ filter r xs
filter_twice p q r same [] = refl
filter_twice p q r same (x ∷ xs) = by_test (q x) (p x) (r x) refl (same x) (filter_twice p q r same xs)
  where
    by_test : (a b c : Bool) → p x ≡ b → c ≡ (a && b) → filter p (filter q xs) ≡ filter r xs → filter p (cond a (x ∷ filter q xs) (filter q xs)) ≡ cond c (x ∷ filter r xs) (filter r xs)
    by_test true b c is e h =
        ap (λ z. cond z (x ∷ filter p (filter q xs)) (filter p (filter q xs))) (is ∙ sym e)
        ∙ ap (λ (z : List NodeId). cond c (x ∷ z) z) h
    by_test false b c is e h = h ∙ sym (ap (λ z. cond z (x ∷ filter r xs) (filter r xs)) e)

filter_all : (p : NodeId → Bool) → ((x : NodeId) → p x ≡ true) → (xs : List NodeId) → filter p xs ≡ xs
filter_all p all [] = refl
filter_all p all (x ∷ xs) = ap (λ b. cond b (x ∷ filter p xs) (filter p xs)) (all x) ∙ ap (λ (z : List NodeId). x ∷ z) (filter_all p all xs)

-- those that weren't met
abbrev new_to : List NodeId → NodeId → Bool
new_to met m = not (is_node_among met m)

-- a node that was met is none of the new ones
met_before : (met : List NodeId) (n : NodeId) → is_node_among met n ≡ true → (x : NodeId) → new_to met x ≡ (not (same_node n x) && new_to met x)
met_before met n there x = by_test (same_node n x) refl
  where
    by_test : (b : Bool) → same_node n x ≡ b → new_to met x ≡ (not b && new_to met x)
    by_test true is = ap not (sym (ap (is_node_among met) (same_node-is n x is)) ∙ there)
    by_test false is = refl

not_or : (a b : Bool) → not (a || b) ≡ (not b && not a)
not_or true true = refl
not_or true false = refl
not_or false true = refl
not_or false false = refl

met_now : (met : List NodeId) (n x : NodeId) → new_to (met ++ n ∷ []) x ≡ (not (same_node n x) && new_to met x)
met_now met n x =
    ap not (among-push nodes_tell met n x)
    ∙ not_or (is_node_among met x) (same_node x n)
    ∙ ap (λ b. not b && new_to met x) (same-swap nodes_tell x n)

meets : (met ns : List NodeId) → fold meet met ns ≡ met ++ filter (new_to met) (firsts ns)
meets met [] = sym (append-nil met)
meets met (n ∷ ns) = by_test (is_node_among met n) refl (meets met ns) (meets (met ++ n ∷ []) ns)
  where
    rest : List NodeId
    rest = filter (λ m. not (same_node n m)) (firsts ns)

    by_test : (b : Bool) → is_node_among met n ≡ b → fold meet met ns ≡ met ++ filter (new_to met) (firsts ns) →
        fold meet (met ++ n ∷ []) ns ≡ (met ++ n ∷ []) ++ filter (new_to (met ++ n ∷ [])) (firsts ns) →
        fold meet (cond b met (met ++ n ∷ [])) ns ≡ met ++ cond (not b) (n ∷ filter (new_to met) rest) (filter (new_to met) rest)
    by_test true is old new = old ∙ sym (ap (λ (z : List NodeId). met ++ z) (filter_twice (new_to met) (λ m. not (same_node n m)) (new_to met) (met_before met n is) (firsts ns)))
    by_test false is old new =
        new
        ∙ append_assoc met (n ∷ []) (filter (new_to (met ++ n ∷ [])) (firsts ns))
        ∙ sym (ap (λ (z : List NodeId). met ++ n ∷ z) (filter_twice (new_to met) (λ m. not (same_node n m)) (new_to (met ++ n ∷ [])) (met_now met n) (firsts ns)))

pub meets-firsts : (ns : List NodeId) → fold meet [] ns ≡ firsts ns
meets-firsts ns = meets [] ns ∙ filter_all (new_to []) (λ x. refl) (firsts ns)
