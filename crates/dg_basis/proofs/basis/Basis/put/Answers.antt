use Rattle.std.proofs.Common.{◌≡◌, option_map, refl, sym, ap, ◌∙◌}
use Rattle.std.specs.BTreeMap.{is_at}
use Rattle.std.specs.Map.{lookup}
use Rattle.dg_basis.specs.declared.node_rec.NodeRec.{NodeRec}
use Rattle.dg_basis.specs.NodeLists.{node_of, put_node}
use Rattle.dg_basis.specs.Keys.{node_cmp}
use Rattle.dg_basis.proofs.Listing.{listed, listed-put}
use Rattle.dg_basis.proofs.Keeping.{kept-put_same, kept-put}
use Rattle.dg_basis.proofs.basis.Basis.put.Goals as goal

pub invariant_of-self-then-is_same : goal.invariant_of-self-then-is_same
invariant_of-self-then-is_same c =
    let before : c.origin_of-before.result ≡ option_map (λ (r : NodeRec). r.origin) (lookup (is_at (node_cmp c.args.node)) c.self.inside.nodes) =
    c.origin_of-before.ensures ∙ ap (option_map (λ (r : NodeRec). r.origin)) c.get.ensures
    in
    rw c.in_ok-insert.ensures.ok
    (kept-put_same c.self.invariant c.args.node c.args.node_rec (lookup (is_at (node_cmp c.args.node)) c.self.inside.nodes) refl (sym before ∙ c.is_same.ensures c.if-is_same.true))

pub returns-then-is_same-clause-ok : goal.returns-then-is_same-clause-ok
returns-then-is_same-clause-ok c =
    ap listed c.in_ok-insert.ensures.ok ∙ listed-put c.args.node c.args.node_rec c.self.inside.nodes ∙ ap (put_node (node_of (c.args.node, c.args.node_rec))) c.self.view_is

pub invariant_of-self-2 : goal.invariant_of-self-2
invariant_of-self-2 c =
    rw (
      c.in_ok-insert-2.ensures.ok,
      c.in_ok-put_key.ensures,
      c.in_ok-take_key.ensures,
      c.in_ok-places.ensures,
      c.place_key-2.ensures,
      c.place_key.ensures,
      c.in_ok-put_key-2.ensures,
      c.in_ok-take_key-2.ensures,
      c.in_ok-overs.ensures,
      c.over_key-2.ensures,
      c.over_key.ensures,
    )
    (kept-put c.self.invariant c.args.node c.args.node_rec c.origin_of-before.result (c.origin_of-before.ensures ∙ ap (option_map (λ (r : NodeRec). r.origin)) c.get.ensures))

pub returns-clause-ok : goal.returns-clause-ok
returns-clause-ok c =
    ap listed c.in_ok-insert-2.ensures.ok ∙ listed-put c.args.node c.args.node_rec c.self.inside.nodes ∙ ap (put_node (node_of (c.args.node, c.args.node_rec))) c.self.view_is
