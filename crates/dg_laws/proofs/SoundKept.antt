-- What stays of the other nodes where a plain node is added, their sources, or a value or mark is changed:
-- the override nodes.
use Rattle.std.proofs.Common.{◌≡◌, Bool, true, false, cond, List, [], ◌∷◌, Option, Some, None, map, find, IsTrue, refl, sym, ap, ◌∙◌}
use Rattle.std.proofs.lemmas.List.Folds.{find-append}
use Rattle.std.specs.Option.{option_or}
use Rattle.dg_base.specs.declared.ids.NodeId.{NodeId}
use Rattle.dg_base.specs.declared.ids.Label.{Label}
use Rattle.dg_base.specs.declared.ids.Kind.{Kind}
use Rattle.dg_base.specs.declared.ids.Endpoint.{Endpoint}
use Rattle.dg_base.specs.declared.graph.Node.{Node}
use Rattle.dg_base.specs.declared.graph.Origin.{Origin}
use Rattle.dg_base.specs.declared.graph.Origin.TheVariants as origin
use Rattle.dg_base.specs.Tables.{Tables}
use Rattle.dg_base.specs.Graph.{Graph, node_at, has_node, overrides, id_of, override_in, explicit_sources}
use Rattle.dg_base.specs.Sources.{moved_to, replaced, explicit_or, sources}
use Rattle.dg_base.specs.Sound.{IsSound, IsLinked}
use Rattle.dg_base.specs.Changes.{new_node, with_node}
use Rattle.dg_laws.proofs.Members.{map_same}
use Rattle.dg_laws.proofs.Nodes.{IsLinked-from_sound, has_node-at}
use Rattle.dg_laws.proofs.Chains.{along_originals}
use Rattle.dg_laws.proofs.Sources.{sources-plain, sources-over}
use Rattle.dg_laws.proofs.SoundParts.{Keeps, Keeps-at}
use Rattle.dg_laws.proofs.SoundNodes.{with_node-keeps}
use Rattle.dg_laws.proofs.SoundValues.{KeepsNode, edited}

-- sources stay where origins, explicit sources and override nodes stay
pub sources-kept : {g h : Graph} → IsLinked g → IsLinked h → Keeps g h → ((n : NodeId) (i : Label) → IsTrue (has_node g n) → explicit_sources h n i ≡ explicit_sources g n i) →
    ((root original : NodeId) → override_in h root original ≡ override_in g root original) → (n : NodeId) (i : Label) → IsTrue (has_node g n) → sources h n i ≡ sources g n i
sources-kept {g} {h} l m k explicit over n i is = along_originals l (λ z. sources h z i ≡ sources g z i) step n is
  where
    by_origin : (n : NodeId) (x y : Node) (w : Origin) → node_at g n ≡ Some x → node_at h n ≡ Some y → x.origin ≡ w → y.origin ≡ w →
        ((root original : NodeId) → x.origin ≡ origin.Over root original → sources h original i ≡ sources g original i) → sources h n i ≡ sources g n i
    by_origin n x y (origin.Plain kind) e f o p above =
        sources-plain m n y kind i f p ∙ explicit n i (has_node-at g n x e) ∙ sym (sources-plain l n x kind i e o)
    by_origin n x y (origin.Over root original) e f o p above =
        sources-over m n y root original i f p
        ∙ ap (λ (z : List Endpoint). explicit_or z (map (replaced h root) (sources h original i))) (explicit n i (has_node-at g n x e))
        ∙ ap (explicit_or (explicit_sources g n i)) (
        map_same (replaced h root) (replaced g root) (sources h original i) (λ s c. ap (moved_to s) (over root s.node))
        ∙ ap (map (replaced g root)) (above root original o))
        ∙ sym (sources-over l n x root original i e o)

    step : (n : NodeId) (x : Node) → node_at g n ≡ Some x → ((root original : NodeId) → x.origin ≡ origin.Over root original → sources h original i ≡ sources g original i) →
        sources h n i ≡ sources g n i
    step n x e above = let y = Keeps-at k n x e in by_origin n x y.0 x.origin e y.1 refl y.2 above

-- ---- one node more

or_none : (o : Option Node) → option_or o None ≡ o
or_none None = refl
or_none (Some x) = refl

pub with_plain-override_in : (g : Graph) (n : NodeId) (k : Kind) (root original : NodeId) → override_in (with_node g (new_node n (origin.Plain k))) root original ≡ override_in g root original
with_plain-override_in g n k root original =
    ap id_of (
    find-append (λ z. overrides root original z.origin) g.nodes (new_node n (origin.Plain k) ∷ []) ∙ or_none (find (λ z. overrides root original z.origin) g.nodes))

-- with a plain node more the sources of the others stay
pub with_plain-sources : {t : Tables} {g : Graph} (n : NodeId) (k : Kind) → IsSound t g → IsSound t (with_node g (new_node n (origin.Plain k))) → (m : NodeId) (i : Label) → IsTrue (has_node g m) →
    sources (with_node g (new_node n (origin.Plain k))) m i ≡ sources g m i
with_plain-sources {t} {g} n k s r m i is =
    sources-kept (IsLinked-from_sound s) (IsLinked-from_sound r) (with_node-keeps g (new_node n (origin.Plain k))) (λ z j there. refl) (with_plain-override_in g n k) m i is

-- ---- changes of nodes that keep ids and origins

module _ {f : Node → Node} (k : KeepsNode f) where
  find_edited_over : (root original : NodeId) (xs : List Node) →
      id_of (find (λ z. overrides root original z.origin) (map f xs)) ≡ id_of (find (λ z. overrides root original z.origin) xs)
  find_edited_over root original [] = refl
  find_edited_over root original (x ∷ xs) =
      ap (λ (w : Origin). id_of (cond (overrides root original w) (Some (f x)) (find (λ z. overrides root original z.origin) (map f xs)))) (k.same_origin x)
      ∙ by_test (overrides root original x.origin) (find_edited_over root original xs)
    where
      by_test : (b : Bool) → id_of (find (λ z. overrides root original z.origin) (map f xs)) ≡ id_of (find (λ z. overrides root original z.origin) xs) →
          id_of (cond b (Some (f x)) (find (λ z. overrides root original z.origin) (map f xs))) ≡ id_of (cond b (Some x) (find (λ z. overrides root original z.origin) xs))
      by_test true rest = ap (λ (z : NodeId). Some z) (k.same_id x)
      by_test false rest = rest

  pub edited-override_in : (g : Graph) (root original : NodeId) → override_in (edited f g) root original ≡ override_in g root original
  edited-override_in g root original = find_edited_over root original g.nodes
