use Rattle.dg_laws.proofs.SoundValues.{with_mark-sound}
use Rattle.dg_tx.proofs.nodes.mark.Goals as goal

pub set_mark-requires-clause-sound : goal.set_mark-requires-clause-sound
set_mark-requires-clause-sound g c = with_mark-sound c.requires.ready.sound c.args.node c.args.defective
