use Rattle.std.specs.Prelude.{MatchOption, Option}
use Rattle.std.proofs.Common.{◌≡◌, ◌≤◌, ℕ, ◌^◌, sym, subst}
use Rattle.std.specs.Str.Parse.{digits_value}
use Rattle.dg_words.proofs.Numerals.{parsed}
use Rattle.dg_words.proofs.numbers.value_of.Goals as goal

pub returns : goal.returns
returns c =
    subst (λ (o : Option ℕ). MatchOption o (2 ^ 64 ≤ digits_value 10 c.args.text.now) (λ n. n ≡ digits_value 10 c.args.text.now))
    (sym c.ok.ensures.value) (parsed c.args.text.now c.parse.result c.requires c.parse.ensures.value.0)
