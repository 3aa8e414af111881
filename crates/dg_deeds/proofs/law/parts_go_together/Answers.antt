use Rattle.dg_deeds.proofs.Parts.{tree_after-append, text_after-append, IsBegun-first, IsBegun-second}
use Rattle.dg_deeds.proofs.law.parts_go_together.Goals as goal

pub returns : goal.returns
returns c = record { tree = tree_after-append; text = text_after-append; first = IsBegun-first; second = IsBegun-second }
