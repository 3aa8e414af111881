use Rattle.std.proofs.Common.{refl, ap, ◌∙◌, map}
use Rattle.dg_build.specs.Contents.{same_content, same_embedded, content_of}
use Rattle.dg_build.specs.Firsts.{firsts}
use Rattle.dg_build.proofs.EqualTexts.{contents_tell}
use Rattle.dg_build.proofs.Keys.{inserted-firsts}
use Rattle.dg_build.proofs.contents.different_contents.Goals as goal

pub returns : goal.returns
returns c =
    ap (map content_of) c.in_ok-once.ensures
    ∙ inserted-firsts same_embedded same_content content_of (λ a b. refl) contents_tell c.as_slice.result.now
    ∙ ap (λ v. firsts same_content (map content_of v)) c.as_slice.ensures.value
    ∙ ap (firsts same_content) c.in_ok-contents.ensures
