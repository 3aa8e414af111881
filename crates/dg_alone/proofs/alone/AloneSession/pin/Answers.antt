use Rattle.std.proofs.Common.{◌≡◌, ℕ}
use Rattle.dg_play.specs.Sessions.{with_live}
use Rattle.dg_play.specs.Work.{moved_on}
use Rattle.dg_world.specs.Steps.{IsPinned}
use Rattle.dg_alone.specs.Works.{view_of}
use Rattle.dg_alone.proofs.Viewing.{if-answer, leaves, on-answer, view-pinned}
use Rattle.dg_alone.proofs.Working.{on-same}
use Rattle.dg_alone.proofs.alone.AloneSession.pin.Goals as goal

pub returns-clause-shows : goal.returns-clause-shows
returns-clause-shows c =
    let w = c.args.self.now.world in let v = c.pin.new.world in
    if-answer c.pin.result (IsPinned w v) (λ (n : ℕ). view_of v ≡ with_live (view_of w) n) c.pin.ensures (λ n h. view-pinned w v n h)

pub returns-clause-work : goal.returns-clause-work
returns-clause-work c =
    let w = c.args.self.now.world in let v = c.pin.new.world in
    on-answer c.pin.result (IsPinned w v) _ c.pin.ensures
    (λ n h. leaves w v (λ _ x. moved_on w.editor.here.revision v.editor.here.revision x) (on-same w v h.desk h.made (λ i. (h.editor i).here)))
