use Rattle.std.proofs.Common.{List, ap, ◌∙◌}
use Rattle.dg_bind.specs.Bindings.{Binding, bound_to}
use Rattle.dg_bind.proofs.NameMaps.{lookup-bound_to}
use Rattle.dg_bind.proofs.bindings.Bindings.find.Goals as goal

pub returns : goal.returns
returns c =
    c.copied.ensures ∙ c.get.ensures.value ∙ lookup-bound_to c.args.name.now c.self.inside.nodes.entries
    ∙ ap (λ (bs : List Binding). bound_to bs c.args.name.now) c.self.view_is
