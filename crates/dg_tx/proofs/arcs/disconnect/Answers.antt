use Rattle.dg_laws.proofs.SoundArcs.{without_arc-sound}
use Rattle.dg_tx.proofs.arcs.disconnect.Goals as goal

pub remove_arc-requires : goal.remove_arc-requires
remove_arc-requires g c = without_arc-sound c.requires.ready.sound c.args.arc
