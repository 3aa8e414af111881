use Rattle.dg_words.proofs.Ranges.{in-range}
use Rattle.dg_words.proofs.laws.numbers_are_in_range.Goals as goal

pub returns : goal.returns
returns c = in-range
