use Rattle.std.proofs.Common.{◌≡◌, Some, None, rules, sym, ap, ◌∙◌}
use Rattle.std.specs.Option.{is_some, option_copied}
use Rattle.std.specs.BTreeMap.{is_at}
use Rattle.std.specs.Map.{lookup, values_of}
use Rattle.dg_base.specs.Changes.{is_arc, without_arc}
use Rattle.dg_arcs.specs.ArcLists.{arcs_alone}
use Rattle.dg_arcs.proofs.Orders.{arc_cmp}
use Rattle.dg_arcs.proofs.Keeping.{kept-has, kept-remove, view-remove, without-absent}
use Rattle.dg_arcs.proofs.arcs.Arcs.remove.Goals as goal

pub returns-in_default-clause-ok : goal.returns-in_default-clause-ok
returns-in_default-clause-ok c =
    let none : lookup (is_at (arc_cmp c.args.arc)) c.self.inside.places ≡ None = sym c.get.ensures ∙ ap option_copied c.in_default.is in
    without-absent c.args.self.now c.args.arc (sym (ap is_some (sym none) ∙ kept-has c.self.invariant c.args.arc ∙ ap (λ as_. is_arc (arcs_alone as_) c.args.arc) c.self.view_is))

pub returns-in_default-clause-there : goal.returns-in_default-clause-there
returns-in_default-clause-there c =
    let none : lookup (is_at (arc_cmp c.args.arc)) c.self.inside.places ≡ None = sym c.get.ensures ∙ ap option_copied c.in_default.is in
    ap is_some (sym none) ∙ kept-has c.self.invariant c.args.arc ∙ ap (λ as_. is_arc (arcs_alone as_) c.args.arc) c.self.view_is

pub invariant_of-self-2 : goal.invariant_of-self-2
invariant_of-self-2 c =
    let there : lookup (is_at (arc_cmp c.args.arc)) c.self.inside.places ≡ Some c.in-Some.number.now = search rules in
    rw (c.in_ok-remove-4.ensures.ok, c.in_ok-remove.ensures.ok, c.in_ok-remove-2.ensures.ok, c.in_ok-remove-3.ensures.ok, c.in_ok-targets.ensures, c.in_ok-sources.ensures, c.in_ok-places.ensures)
    (kept-remove c.self.invariant c.args.arc c.in-Some.number.now there)

pub returns-clause-ok : goal.returns-clause-ok
returns-clause-ok c =
    let there : lookup (is_at (arc_cmp c.args.arc)) c.self.inside.places ≡ Some c.in-Some.number.now = search rules in
    ap values_of c.in_ok-remove-4.ensures.ok ∙ view-remove c.self.invariant c.args.arc c.in-Some.number.now there ∙ ap (λ as_. (without_arc (arcs_alone as_) c.args.arc).arcs) c.self.view_is

pub returns-clause-there : goal.returns-clause-there
returns-clause-there c =
    let there : lookup (is_at (arc_cmp c.args.arc)) c.self.inside.places ≡ Some c.in-Some.number.now = search rules in
    sym (ap is_some there) ∙ kept-has c.self.invariant c.args.arc ∙ ap (λ as_. is_arc (arcs_alone as_) c.args.arc) c.self.view_is
