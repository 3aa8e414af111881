use Rattle.std.proofs.Common.{ap, arith}
use Rattle.dg_tool.specs.Halts.{code_of}
use Rattle.dg_tool.proofs.Endings.{sink_failed}
use Rattle.dg_tool.proofs.run.put_refusal.Goals as goal

pub returns-in-Because-clause-cause : goal.returns-in-Because-clause-cause
returns-in-Because-clause-cause g c = λ is. sink_failed c.in-Because.halt (c.put_halt.ensures.cause is)

pub returns-in-NoMemory-clause-cause : goal.returns-in-NoMemory-clause-cause
returns-in-NoMemory-clause-cause g c = λ is. absurd (omega (arith, ap code_of is))
