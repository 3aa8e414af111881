use Rattle.std.proofs.Common.{◌≡◌, ◌++◌, take}
use Rattle.dg_report.specs.Parts.{behind_first}
use Rattle.dg_report.specs.Text.{fault_text}
use Rattle.dg_report.proofs.answers.put_faults.Given as goal

abbrev pub invariant-loop-fault : goal.invariant-loop-fault
invariant-loop-fault l = l.out.items ≡ l.initial.out.items ++ behind_first (fault_text l.names) (take l.fault-index l.rest)
