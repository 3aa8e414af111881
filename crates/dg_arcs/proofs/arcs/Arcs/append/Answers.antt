use Rattle.std.proofs.Common.{◌≡◌, ◌+◌, rules, ap, ◌∙◌}
use Rattle.std.specs.Map.{values_of}
use Rattle.dg_base.specs.Changes.{is_arc, with_arc}
use Rattle.dg_arcs.specs.ArcLists.{arcs_alone}
use Rattle.dg_arcs.proofs.Keeping.{kept-append, view-append}
use Rattle.dg_arcs.proofs.arcs.Arcs.append.Goals as goal

pub invariant_of-self-2 : goal.invariant_of-self-2
invariant_of-self-2 c =
    let next : c.in-Some.next ≡ c.self.inside.next + 1 = search rules in
    rw (c.in_ok-insert-4.ensures.ok, c.in_ok-insert.ensures.ok, c.in_ok-insert-2.ensures.ok, c.in_ok-insert-3.ensures.ok, c.in_ok-targets.ensures, c.in_ok-sources.ensures, c.in_ok-places.ensures, next)
    (kept-append c.self.invariant c.args.arc (ap (λ as_. is_arc (arcs_alone as_) c.args.arc) c.self.view_is ∙ c.requires.new))

pub returns-clause-ok : goal.returns-clause-ok
returns-clause-ok c =
    ap values_of c.in_ok-insert-4.ensures.ok ∙ view-append c.self.invariant c.args.arc ∙ ap (λ as_. (with_arc (arcs_alone as_) c.args.arc).arcs) c.self.view_is
