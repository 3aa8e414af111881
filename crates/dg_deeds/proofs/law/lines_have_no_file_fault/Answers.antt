use Rattle.dg_deeds.proofs.Parts.{IsBegun-lines-fault}
use Rattle.dg_deeds.proofs.law.lines_have_no_file_fault.Goals as goal

pub returns : goal.returns
returns c = IsBegun-lines-fault
