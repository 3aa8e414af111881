use Rattle.std.proofs.Common.{refl, ap, ◌∙◌, ℕ, Option}
use Rattle.std.specs.Option.{unwrap_or}
use Rattle.dg_build.specs.Contents.{same_content, same_embedded, content_of}
use Rattle.dg_build.proofs.Keys.{position_seen}
use Rattle.dg_build.proofs.contents.place_of.Goals as goal

pub returns : goal.returns
returns c =
    c.unwrap_or.ensures
    ∙ ap (λ (o : Option ℕ). unwrap_or o 0) c.get_index_of.ensures.index
    ∙ position_seen same_embedded same_content content_of (λ a b. refl) c.args.content c.args.contents.now.keys
