use Rattle.dg_laws.proofs.Nodes.{IsLinked-from_sound}
use Rattle.dg_reads.proofs.core_reads.is_linked.Goals as goal

pub returns : goal.returns
returns g c = IsLinked-from_sound c.is_sound.ensures
