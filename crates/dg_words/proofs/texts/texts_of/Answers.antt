use Rattle.std.proofs.Common.{◌∙◌, codes}
use Rattle.clap.specs.Matches.{found_of}
use Rattle.clap.proofs.WalkLemmas.{first_value-rows}
use Rattle.dg_words.proofs.texts.texts_of.Goals as goal

pub returns : goal.returns
returns c = λ i. record {
  first = (c.get_str.ensures ∙ first_value-rows (found_of c.args.matches.now) (codes "first")) i;
  second = (c.get_str-2.ensures ∙ first_value-rows (found_of c.args.matches.now) (codes "second")) i;
  workers = (c.get_str-3.ensures ∙ first_value-rows (found_of c.args.matches.now) (codes "workers")) i;
  cache = (c.get_str-4.ensures ∙ first_value-rows (found_of c.args.matches.now) (codes "cache")) i;
  stats = c.is_flagged.ensures i;
}
