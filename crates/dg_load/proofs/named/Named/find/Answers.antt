use Rattle.std.proofs.Common.{ap, ◌∙◌}
use Rattle.dg_load.specs.Named.{find}
use Rattle.dg_load.proofs.NameMaps.{lookup-find}
use Rattle.dg_load.proofs.named.Named.find.Goals as goal

pub returns : goal.returns
returns g c =
    c.copied.ensures ∙ c.get.ensures.value ∙ lookup-find c.args.name.now c.self.inside.values.entries
    ∙ ap (λ ns. find ns c.args.name.now) c.self.view_is
