-- Which outputs read from some nodes depends only on which nodes are among them.
use Rattle.std.proofs.Common.{◌≡◌, Bool, ◌||◌, cond, List, [], ◌∷◌, ◌++◌, filter, flat_map, refl, ap, ◌∙◌}
use Rattle.std.specs.List.{list_any}
use Rattle.dg_base.specs.declared.ids.NodeId.{NodeId}
use Rattle.dg_base.specs.declared.graph.Node.{Node}
use Rattle.dg_base.specs.declared.schema.ArgSpec.{ArgSpec}
use Rattle.dg_base.specs.declared.schema.ArgSpec.TheVariants as arg
use Rattle.dg_base.specs.Tables.{Tables}
use Rattle.dg_base.specs.Graph.{Graph}
use Rattle.dg_base.specs.Chain.{kind_of}
use Rattle.dg_base.specs.Sources.{sources}
use Rattle.dg_base.specs.Rule.{ends_of}
use Rattle.dg_base.specs.Order.{is_node_among}
use Rattle.dg_base.specs.Touched.{args_of, is_fed_by, is_input_arg, outputs, outputs_reading}

module _ {X : Type 0} (p q : X → Bool) (same : (x : X) → p x ≡ q x) where
  pub list_any_same : (xs : List X) → list_any p xs ≡ list_any q xs
  list_any_same [] = refl
  list_any_same (x ∷ xs) = ap (λ b. b || list_any p xs) (same x) ∙ ap (λ b. q x || b) (list_any_same xs)

  pub filter_by_same : (xs : List X) → filter p xs ≡ filter q xs
  filter_by_same [] = refl
  filter_by_same (x ∷ xs) = ap (λ b. cond b (x ∷ filter p xs) (filter p xs)) (same x) ∙ ap (λ (z : List X). cond (q x) (x ∷ z) z) (filter_by_same xs)

flat_map_same : {X Y : Type 0} (f h : X → List Y) → ((x : X) → f x ≡ h x) → (xs : List X) → flat_map f xs ≡ flat_map h xs
flat_map_same f h same [] = refl
flat_map_same {Y = Y} f h same (x ∷ xs) = ap (λ (z : List Y). z ++ flat_map f xs) (same x) ∙ ap (λ (z : List Y). h x ++ z) (flat_map_same f h same xs)

module _ (t : Tables) (g : Graph) (ns ms : List NodeId) (same : (n : NodeId) → is_node_among ns n ≡ is_node_among ms n) where
  fed_same : (n : NodeId) (a : ArgSpec) → is_input_arg (is_fed_by g ns n) a ≡ is_input_arg (is_fed_by g ms n) a
  fed_same n (arg.Own l) = refl
  fed_same n (arg.Input i) = list_any_same (λ s. is_node_among ns s.node) (λ s. is_node_among ms s.node) (λ s. same s.node) (sources g n i)
  fed_same n arg.Open = refl

  reading_same : (n : NodeId) → outputs_reading t g (is_input_arg (is_fed_by g ns n)) n ≡ outputs_reading t g (is_input_arg (is_fed_by g ms n)) n
  reading_same n =
      ap (ends_of n) (filter_by_same
      (λ l. list_any (is_input_arg (is_fed_by g ns n)) (args_of t (kind_of g n) l))
      (λ l. list_any (is_input_arg (is_fed_by g ms n)) (args_of t (kind_of g n) l))
      (λ l. list_any_same (is_input_arg (is_fed_by g ns n)) (is_input_arg (is_fed_by g ms n)) (fed_same n) (args_of t (kind_of g n) l))
      (outputs t (kind_of g n)))

  pub readers-same : (xs : List Node) →
      flat_map (λ x. outputs_reading t g (is_input_arg (is_fed_by g ns x.id)) x.id) xs ≡ flat_map (λ x. outputs_reading t g (is_input_arg (is_fed_by g ms x.id)) x.id) xs
  readers-same xs =
      flat_map_same
      (λ x. outputs_reading t g (is_input_arg (is_fed_by g ns x.id)) x.id)
      (λ x. outputs_reading t g (is_input_arg (is_fed_by g ms x.id)) x.id)
      (λ x. reading_same x.id) xs
