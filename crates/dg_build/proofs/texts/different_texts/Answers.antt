use Rattle.std.proofs.Common.{refl, ap, ◌∙◌, map, Bor, List, ℕ}
use Rattle.std.specs.Str.{bytes_eq}
use Rattle.dg_build.proofs.EqualTexts.{texts_tell}
use Rattle.dg_build.proofs.Keys.{inserted-firsts}
use Rattle.dg_build.proofs.texts.different_texts.Goals as goal

pub returns : goal.returns
returns c =
    ap (map (λ (t : Bor (List ℕ)). t.now)) c.in_ok-once.ensures
    ∙ inserted-firsts (λ a b. bytes_eq a.now b.now) bytes_eq (λ t. t.now) (λ a b. refl) texts_tell c.args.texts.now
