use Rattle.dg_laws.proofs.SoundArcs.{without_arcs_into-sound}
use Rattle.dg_tx.proofs.arcs.free.Goals as goal

pub remove_arcs_into-requires : goal.remove_arcs_into-requires
remove_arcs_into-requires g c = without_arcs_into-sound c.requires c.args.arc.node c.args.arc.input
