-- Nodes appended, with ids from the next one on: no rule changes but those of their endpoints, and of
-- outputs that read one of them.
use Rattle.std.proofs.Common.{◌≡◌, ℕ, ◌<◌, ◌≤◌, true, false, ◌&&◌, List, ◌++◌, Option, Some, None, map, filter, find, Contains, IsTrue, nat_le, inl, inr, refl, sym, ap, ◌∙◌, subst, arith, true≢false, le-leb, leb-true}
use Rattle.std.proofs.lemmas.Bool.{and_parts, and_from}
use Rattle.std.proofs.lemmas.List.Elements.{Contains-append_left, Contains-append_cases}
use Rattle.std.proofs.lemmas.List.Folds.{find-append}
use Rattle.std.specs.Option.{option_or}
use Rattle.dg_base.specs.declared.ids.NodeId.{NodeId}
use Rattle.dg_base.specs.declared.ids.ArcRec.{ArcRec}
use Rattle.dg_base.specs.declared.graph.Node.{Node}
use Rattle.dg_base.specs.Same.{same_node, same_label}
use Rattle.dg_base.specs.Order.{is_node_among}
use Rattle.dg_base.specs.Tables.{Tables, AreTables}
use Rattle.dg_base.specs.Graph.{Graph, node_at, has_node, overrides, id_of, override_in}
use Rattle.dg_base.specs.Sound.{IsLinked, ids_below}
use Rattle.dg_base.specs.Touched.{nodes_from, touched_nodes}
use Rattle.dg_laws.proofs.Members.{find_gives}
use Rattle.dg_laws.proofs.Among.{among-filter}
use Rattle.dg_laws.proofs.Ids.{nodes_tell}
use Rattle.dg_laws.proofs.Nodes.{node_at-cases, node_at-in, node_at-id, node_at-member, has_node-at, has_node-among}
use Rattle.dg_laws.proofs.Chains.{IsOriginal-of}
use Rattle.dg_laws.proofs.Sources.{id_of-some, override_in-is}
use Rattle.dg_laws.proofs.SoundParts.{below-member}
use Rattle.dg_touch.specs.Laws.{RulesAgreeOutside}
use Rattle.dg_touch.proofs.NodeChanges.{IsPart, rules-part}

pub record IsGrown (small big : Graph) (next : ℕ) : Type 0 where
  pub more : List Node
  pub nodes : big.nodes ≡ small.nodes ++ more
  pub arcs : big.arcs ≡ small.arcs
  pub new : (x : Node) → Contains more x → next ≤ x.id.0

module _ {small big : Graph} {next : ℕ} (w : IsGrown small big next) (below : IsTrue (ids_below small next)) (l : IsLinked big) (r : IsLinked small) where
  new_among : (n : NodeId) → is_node_among (nodes_from next big) n ≡ (has_node big n && nat_le next n.0)
  new_among n = among-filter nodes_tell (λ m. nat_le next m.0) (map (λ x. x.id) big.nodes) n ∙ ap (λ b. b && nat_le next n.0) (has_node-among big n)

  new_high : (n : NodeId) → is_node_among (nodes_from next big) n ≡ true → next ≤ n.0
  new_high n h = leb-true next n.0 (and_parts (has_node big n) (nat_le next n.0) (sym (new_among n) ∙ h)).1

  high_new : (n : NodeId) → IsTrue (has_node big n) → next ≤ n.0 → is_node_among (nodes_from next big) n ≡ true
  high_new n there le = new_among n ∙ and_from _ _ there (le-leb next n.0 le)

  low : (n : NodeId) (x : Node) → node_at small n ≡ Some x → n.0 < next
  low n x e = subst (λ (z : NodeId). z.0 < next) (node_at-id small n x e) (below-member small next below x (node_at-in small n x e))

  in_big : (x : Node) → Contains small.nodes x → Contains big.nodes x
  in_big x c = subst (λ (z : List Node). Contains z x) (sym w.nodes) (Contains-append_left small.nodes w.more x c)

  old_in_big : (n : NodeId) (x : Node) → node_at small n ≡ Some x → node_at big n ≡ Some x
  old_in_big n x e =
      subst (λ (z : NodeId). node_at big z ≡ Some x) (node_at-id small n x e) (node_at-member l x (in_big x (node_at-in small n x e)))

  none_at : (n : NodeId) → ((x : Node) → node_at small n ≡ Some x → ⊥) → node_at small n ≡ None
  none_at n never = elim (node_at-cases small n) [ inl there ↦ absurd (never there.0 there.1) | inr none ↦ none ]

  free_old : (n : NodeId) (x : Node) → node_at big n ≡ Some x → is_node_among (nodes_from next big) n ≡ false → node_at small n ≡ Some x
  free_old n x e free =
      elim (Contains-append_cases small.nodes w.more x (subst (λ (z : List Node). Contains z x) w.nodes (node_at-in big n x e))) [
        | inl old ↦ subst (λ (z : NodeId). node_at small z ≡ Some x) (node_at-id big n x e) (node_at-member r x old)
        | inr new ↦
            let high : next ≤ n.0 = subst (λ (z : NodeId). next ≤ z.0) (node_at-id big n x e) (w.new x new) in
            absurd (true≢false (sym (high_new n (has_node-at big n x e) high) ∙ free))
      ]

  -- ---- override nodes

  abbrev over_in : List Node → NodeId → NodeId → Option Node
  over_in xs root original = find (λ z. overrides root original z.origin) xs

  overs_big : (root original : NodeId) → override_in big root original ≡ id_of (option_or (over_in small.nodes root original) (over_in w.more root original))
  overs_big root original =
      ap (λ (xs : List Node). id_of (over_in xs root original)) w.nodes
      ∙ ap id_of (find-append (λ z. overrides root original z.origin) small.nodes w.more)

  over_kept : (root original m : NodeId) → override_in big root original ≡ Some m → is_node_among (nodes_from next big) m ≡ false →
      override_in small root original ≡ Some m
  over_kept root original m e free = by_found (over_in small.nodes root original) refl
    where
      by_found : (o : Option Node) → over_in small.nodes root original ≡ o → override_in small root original ≡ Some m
      by_found None is =
          let found : id_of (over_in w.more root original) ≡ Some m =
          ap (λ (o : Option Node). id_of (option_or o (over_in w.more root original))) (sym is) ∙ sym (overs_big root original) ∙ e in
          let x = id_of-some (over_in w.more root original) m found in
          let new = (find_gives (λ z. overrides root original z.origin) w.more x.0 x.1).0 in
          let high : next ≤ m.0 = subst (λ (z : NodeId). next ≤ z.0) x.2 (w.new x.0 new) in
          let is_over = override_in-is l root original m e in
          absurd (true≢false (sym (high_new m (has_node-at big m is_over.node is_over.at) high) ∙ free))
      by_found (Some x) is =
          ap id_of is
          ∙ sym (ap (λ (o : Option Node). id_of (option_or o (over_in w.more root original))) is)
          ∙ sym (overs_big root original)
          ∙ e

  over_none : (root original : NodeId) → override_in big root original ≡ None → override_in small root original ≡ None
  over_none root original e = by_found (over_in small.nodes root original) refl
    where
      by_found : (o : Option Node) → over_in small.nodes root original ≡ o → override_in small root original ≡ None
      by_found None is = ap id_of is
      by_found (Some x) is =
          let some : Some x.id ≡ None =
          sym (ap (λ (o : Option Node). id_of (option_or o (over_in w.more root original))) is) ∙ sym (overs_big root original) ∙ e in
          let no : ⊥ = cc in absurd no

  pub IsPart-grown : IsPart big small (nodes_from next big)
  IsPart-grown = record {
    kept = free_old;
    gone = λ n among. none_at n (λ x e. let lt = low n x e in let le = new_high n among in omega (arith, lt, le));
    absent = λ n none. none_at n (λ x e. let some = old_in_big n x e in let no : ⊥ = cc in no);
    explicit = λ n i free all.
        ap (λ (as_ : List ArcRec). map (λ a. a.src) (filter (λ a. same_node a.node n && same_label a.input i) as_)) (sym w.arcs);
    overs_kept = over_kept;
    overs_none = over_none;
    overs_gone = λ m x root original e o among.
        let le = new_high original among in
        let lt = (IsOriginal-of l m x root original e o).before in
        high_new m (has_node-at big m x e) (omega (arith, le, lt));
  }

  pub rules-grown : {t : Tables} → AreTables t → RulesAgreeOutside t small big (touched_nodes t big (nodes_from next big))
  rules-grown {t} laws e out = rules-part l r IsPart-grown laws e out
