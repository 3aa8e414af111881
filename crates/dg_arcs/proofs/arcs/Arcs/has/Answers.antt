use Rattle.std.proofs.Common.{ap, ◌∙◌}
use Rattle.dg_base.specs.Changes.{is_arc}
use Rattle.dg_arcs.specs.ArcLists.{arcs_alone}
use Rattle.dg_arcs.proofs.Keeping.{kept-has}
use Rattle.dg_arcs.proofs.arcs.Arcs.has.Goals as goal

pub returns : goal.returns
returns c = c.contains_key.ensures ∙ kept-has c.self.invariant c.args.arc ∙ ap (λ as_. is_arc (arcs_alone as_) c.args.arc) c.self.view_is
