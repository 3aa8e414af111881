use Rattle.std.proofs.Common.{◌∙◌, ap, sym, true≢false, is_some}
use Rattle.std.specs.Option.{option_copied}
use Rattle.dg_eval.proofs.Entries.{value_in-among}
use Rattle.dg_eval.proofs.looking.finished.Goals as goal

pub unreachable-requires : goal.unreachable-requires
unreachable-requires c = true≢false (sym c.requires ∙ sym (value_in-among c.args.results.now c.args.at) ∙ ap is_some (sym c.find.ensures ∙ ap option_copied c.in-None.is))
