use Rattle.std.proofs.Common.{◌∙◌, ap, map, string_bytes, subst, Result}
use Rattle.clap.specs.Simple.{App}
use Rattle.dg_base.specs.Refusal.{Gives}
use Rattle.dg_words.specs.declared.task.Usage.{Usage}
use Rattle.dg_words.specs.Texts.{Given, seen}
use Rattle.dg_words.specs.Commands.{parsed_by}
use Rattle.dg_words.proofs.Wholes.{build_agrees}
use Rattle.dg_words.proofs.texts.build_texts.Goals as goal

pub returns : goal.returns
returns c =
    let words = map string_bytes c.args.words.now in
    subst (λ (r : Result Given Usage). Gives seen c.read_texts.result r) (ap (λ (a : App). parsed_by a words) c.in_ok-command.ensures ∙ build_agrees words) c.read_texts.ensures
