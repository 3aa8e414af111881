use Rattle.dg_laws.proofs.SoundValues.{without_value-sound}
use Rattle.dg_tx.proofs.values.clear.Goals as goal

pub clear_value-requires-clause-sound : goal.clear_value-requires-clause-sound
clear_value-requires-clause-sound g c = without_value-sound c.requires.ready.sound c.args.node c.args.label
