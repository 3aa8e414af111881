use Rattle.std.proofs.Common.{refl, ap, ◌∙◌, ℕ, Option}
use Rattle.std.specs.Option.{unwrap_or}
use Rattle.std.specs.Str.{bytes_eq}
use Rattle.dg_build.proofs.Keys.{position_seen}
use Rattle.dg_build.proofs.texts.place_of.Goals as goal

pub returns : goal.returns
returns c =
    c.unwrap_or.ensures
    ∙ ap (λ (o : Option ℕ). unwrap_or o 0) c.get_index_of.ensures.index
    ∙ position_seen (λ a b. bytes_eq a.now b.now) bytes_eq (λ t. t.now) (λ a b. refl) c.args.text c.args.texts.now.keys
