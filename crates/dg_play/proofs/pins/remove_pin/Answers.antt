use Rattle.std.proofs.Common.{rules, not, bytes_eq}
use Rattle.std.proofs.lemmas.Fn.{filter_same}
use Rattle.dg_play.proofs.pins.remove_pin.Goals as goal

pub returns : goal.returns
returns c = filter_same _ (λ p. not (bytes_eq p.name c.args.name.now)) _ (λ x b q k. search rules) _ _ c.retain.ensures.filtered
