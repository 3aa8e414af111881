use Rattle.std.proofs.Common.{◌≡◌, List, ℕ, ap, ◌∙◌, rules, string_bytes}
use Rattle.dg_bind.specs.Bindings.{Binding, bind}
use Rattle.dg_bind.specs.Code.{bindings_in}
use Rattle.dg_bind.proofs.NameMaps.{insert-bind}
use Rattle.dg_bind.proofs.bindings.Bindings.bind.Goals as goal

pub returns-clause-ok : goal.returns-clause-ok
returns-clause-ok c =
    let is : string_bytes c.in_ok-name.name ≡ c.args.name.now = search rules in
    ap bindings_in c.in_ok-insert.ensures.entries
    ∙ insert-bind c.self.inside.nodes.entries c.in_ok-name.name c.args.node
    ∙ ap (λ (bs : List Binding). bind bs (string_bytes c.in_ok-name.name) c.args.node) c.self.view_is
    ∙ ap (λ (t : List ℕ). bind c.args.self.now t c.args.node) is
