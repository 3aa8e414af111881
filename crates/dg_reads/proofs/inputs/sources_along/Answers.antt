use Rattle.std.proofs.Common.{rules, ◌≡◌, List, ◌++◌, [], ◌∷◌, sym, ap, ◌∙◌}
use Rattle.dg_base.specs.declared.ids.NodeId.{NodeId}
use Rattle.dg_base.specs.declared.ids.Endpoint.{Endpoint}
use Rattle.dg_base.specs.Sources.{sources}
use Rattle.dg_reads.specs.Inheritance.{shown_by}
use Rattle.dg_reads.proofs.Inheritance.{shown_by-push, inherits-sources, inherits_none-sources, inherits-below}
use Rattle.dg_reads.proofs.inputs.sources_along.Goals as goal

pub loop-root-smaller : goal.loop-root-smaller
loop-root-smaller g c = inherits-below (g.G.CoreReads.graph c.args.graph.now) c.loop-root.at c.args.input c.requires c.in-Some.root c.in-Some.original (sym c.inherits.ensures ∙ c.in-Some.is)

pub loop-root-preserved : goal.loop-root-preserved
loop-root-preserved g c =
    let from = inherits-sources (g.G.CoreReads.graph c.args.graph.now) c.loop-root.at c.args.input c.requires c.in-Some.root c.in-Some.original (sym c.inherits.ensures ∙ c.in-Some.is) in
    ap (λ (rs : List NodeId). shown_by (g.G.CoreReads.graph c.args.graph.now) rs (sources (g.G.CoreReads.graph c.args.graph.now) c.in-Some.original c.args.input)) c.in_ok-push.ensures.items
    ∙ shown_by-push (g.G.CoreReads.graph c.args.graph.now) c.loop-root.roots.items c.in-Some.root _
    ∙ ap (shown_by (g.G.CoreReads.graph c.args.graph.now) c.loop-root.roots.items) (sym from)
    ∙ c.loop-root.invariant

pub loop-root-2-preserved : goal.loop-root-2-preserved
loop-root-2-preserved g c =
    ap (shown_by (g.G.CoreReads.graph c.args.graph.now) c.pop.new.self.items) c.in_ok-found-2.ensures
    ∙ sym (shown_by-push (g.G.CoreReads.graph c.args.graph.now) c.pop.new.self.items c.in-Some-pop.root _)
    ∙ ap (λ (ss : List Endpoint). shown_by (g.G.CoreReads.graph c.args.graph.now) (c.pop.new.self.items ++ c.in-Some-pop.root ∷ []) ss) c.deref.ensures.value
    ∙ ap (λ (rs : List NodeId). shown_by (g.G.CoreReads.graph c.args.graph.now) rs c.loop-root-2.found.items) (sym c.in-Some-pop.ensures.items)
    ∙ c.loop-root-2.invariant

pub returns : goal.returns
returns g c =
    let none_left : c.loop-root-2.roots.items ≡ [] = search rules in
    ap (λ (rs : List NodeId). shown_by (g.G.CoreReads.graph c.args.graph.now) rs c.loop-root-2.found.items) (sym none_left)
    ∙ c.loop-root-2.invariant
    ∙ ap (shown_by (g.G.CoreReads.graph c.args.graph.now) c.loop-root.roots.items)
    (c.in_ok-found.ensures ∙ sym (inherits_none-sources (g.G.CoreReads.graph c.args.graph.now) c.loop-root.at c.args.input c.requires (sym c.inherits.ensures ∙ c.in_default.is)))
    ∙ c.loop-root.invariant
