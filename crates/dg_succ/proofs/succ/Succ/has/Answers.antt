use Rattle.std.proofs.Common.{ap, ◌∙◌}
use Rattle.dg_succ.specs.Pairs.{Pair, is_pair_among}
use Rattle.dg_succ.proofs.PairOrder.{pairs_compare}
use Rattle.dg_succ.proofs.PairKeys.{among-keys}
use Rattle.dg_succ.proofs.succ.Succ.has.Goals as goal

pub returns : goal.returns
returns c =
    let pair : Pair = (c.args.from, c.args.to) in
    c.contains_key.ensures ∙ among-keys pairs_compare pair c.self.inside.pairs ∙ ap (λ ps. is_pair_among ps pair) c.self.view_is
