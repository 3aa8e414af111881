use Rattle.dg_play.specs.Work.{moved_on}
use Rattle.dg_alone.proofs.Viewing.{leaves}
use Rattle.dg_alone.proofs.Working.{on-same}
use Rattle.dg_alone.proofs.alone.AloneSession.drop_pin.Goals as goal

pub returns-clause-work : goal.returns-clause-work
returns-clause-work c =
    let w = c.args.self.now.world in let v = c.drop_pin.new.world in let h = c.drop_pin.ensures in
    leaves w v (λ _ x. moved_on w.editor.here.revision v.editor.here.revision x) (on-same w v h.desk h.made (λ i. (h.editor i).here))
