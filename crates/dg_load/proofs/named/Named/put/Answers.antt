use Rattle.std.proofs.Common.{◌≡◌, List, ℕ, ap, ◌∙◌, rules, string_bytes}
use Rattle.dg_load.specs.Named.{put, pairs_in}
use Rattle.dg_load.proofs.NameMaps.{insert-put}
use Rattle.dg_load.proofs.named.Named.put.Goals as goal

pub returns-clause-ok : goal.returns-clause-ok
returns-clause-ok g c =
    let is : string_bytes c.in_ok-name.name ≡ c.args.name.now = search rules in
    ap pairs_in c.in_ok-insert.ensures.entries
    ∙ insert-put c.self.inside.values.entries c.in_ok-name.name c.args.value
    ∙ ap (λ ns. put (string_bytes c.in_ok-name.name) c.args.value ns) c.self.view_is
    ∙ ap (λ (t : List ℕ). put t c.args.value c.args.self.now) is
