-- Nodes that go, with the override nodes of each of them: no rule changes but those that their endpoints
-- had, and of outputs that read one of them.
use Rattle.std.proofs.Common.{◌≡◌, true, false, not, ◌&&◌, List, Some, map, find, inl, inr, sym, ap, ◌∙◌}
use Rattle.std.proofs.lemmas.Bool.{and_parts, and_from, cases_Bool, not_from_false}
use Rattle.dg_base.specs.declared.ids.NodeId.{NodeId}
use Rattle.dg_base.specs.declared.ids.ArcRec.{ArcRec}
use Rattle.dg_base.specs.Same.{same_node, same_label}
use Rattle.dg_base.specs.Order.{is_node_among}
use Rattle.dg_base.specs.Tables.{Tables, AreTables}
use Rattle.dg_base.specs.Graph.{Graph, overrides, id_of, arcs_into}
use Rattle.dg_base.specs.Sound.{IsSound, IsLinked}
use Rattle.dg_base.specs.Owned.{doomed}
use Rattle.dg_base.specs.Changes.{stays, without_nodes}
use Rattle.dg_base.specs.Touched.{touched_nodes, touched_doomed}
use Rattle.dg_laws.proofs.Members.{Contains-map, Contains-filter}
use Rattle.dg_laws.proofs.Ids.{same_node-is}
use Rattle.dg_laws.proofs.Nodes.{IsLinked-from_sound}
use Rattle.dg_laws.proofs.Sources.{id_of-some}
use Rattle.dg_laws.proofs.GraphWalks.{overs-has}
use Rattle.dg_laws.proofs.SoundNodes.{id_of-none}
use Rattle.dg_laws.proofs.SoundDeletes.{TakesOvers, without_nodes-stays, without_nodes-gone, without_nodes-linked, doomed-takes_overs}
use Rattle.dg_touch.specs.Laws.{RulesAgreeOutside}
use Rattle.dg_touch.proofs.Passing.{filter-passing, find-passing, find_none-passing}
use Rattle.dg_touch.proofs.NodeChanges.{IsPart, rules-part}

module _ {g : Graph} {ns : List NodeId} (l : IsLinked g) (takes : TakesOvers g ns) where
  free_arc-stays : (a : ArcRec) → is_node_among ns a.src.node ≡ false → is_node_among ns a.node ≡ false → stays ns a ≡ true
  free_arc-stays a source node = and_from _ _ (not_from_false _ source) (not_from_false _ node)

  pub IsPart-without : IsPart g (without_nodes g ns) ns
  IsPart-without = record {
    kept = λ n x e free. without_nodes-stays g ns n free ∙ e;
    gone = without_nodes-gone g ns;
    absent = λ n none. elim (cases_Bool (is_node_among ns n)) [
      | inl among ↦ without_nodes-gone g ns n among
      | inr free ↦ without_nodes-stays g ns n free ∙ none
    ];
    explicit = λ n i free all. ap (map (λ a. a.src)) (
        filter-passing (λ a. same_node a.node n && same_label a.input i) (stays ns) g.arcs (λ a c into.
        let in_list = Contains-filter (λ z. same_node z.node n && same_label z.input i) g.arcs a c into in
        let node = same_node-is a.node n (and_parts (same_node a.node n) (same_label a.input i) into).0 in
        free_arc-stays a (all a.src (Contains-map (λ (z : ArcRec). z.src) (arcs_into g n i) a in_list)) (ap (is_node_among ns) node ∙ free)));
    overs_kept = λ root original m e free.
        let x = id_of-some (find (λ z. overrides root original z.origin) g.nodes) m e in
        let stays_too = not_from_false _ (ap (is_node_among ns) x.2 ∙ free) in
        ap id_of (find-passing (λ z. overrides root original z.origin) (λ z. not (is_node_among ns z.id)) g.nodes x.0 x.1 stays_too)
        ∙ ap (λ (k : NodeId). Some k) x.2;
    overs_none = λ root original e.
        let none = id_of-none (find (λ z. overrides root original z.origin) g.nodes) e in
        ap id_of (find_none-passing (λ z. overrides root original z.origin) (λ z. not (is_node_among ns z.id)) g.nodes none);
    overs_gone = λ m x root original e o among. takes.overs_go original m among (overs-has l m x root original e o);
  }

module _ {t : Tables} {g : Graph} (laws : AreTables t) (s : IsSound t g) where
  pub rules-without_nodes : (ns : List NodeId) → TakesOvers g ns → RulesAgreeOutside t g (without_nodes g ns) (touched_nodes t g ns)
  rules-without_nodes ns takes e out =
      let l = IsLinked-from_sound s in
      sym (rules-part l (without_nodes-linked s takes) (IsPart-without l takes) laws e out)

  -- Delete
  pub rules-without_doomed : (n : NodeId) → RulesAgreeOutside t g (without_nodes g (doomed t g n)) (touched_doomed t g (Some n))
  rules-without_doomed n = rules-without_nodes (doomed t g n) (doomed-takes_overs (IsLinked-from_sound s) t n)
