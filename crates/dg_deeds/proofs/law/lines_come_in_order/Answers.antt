use Rattle.dg_deeds.proofs.Parts.{text_after-lines, GotPrefix-begun}
use Rattle.dg_deeds.proofs.law.lines_come_in_order.Goals as goal

pub returns : goal.returns
returns c = record { all = text_after-lines; part = GotPrefix-begun }
