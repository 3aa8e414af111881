use Rattle.std.proofs.Common.{le_trans, ◌∙◌}
use Rattle.dg_sources.specs.declared.limits.TheConstants.{MAX_TOTAL}
use Rattle.dg_sources.specs.Project.{with_files}
use Rattle.dg_sources.proofs.NextFiles.{next-told, stays_sound}
use Rattle.dg_sources.proofs.project.read_files.Goals as goal

pub loop-path-preserved : goal.loop-path-preserved
loop-path-preserved g c = record {
  told =
      next-told (g.F.Files.tree c.args.files.now) (g.F.Files.tree c.loop-path.files) c.loop-path.room c.in_ok-room.room c.args.paths.now c.loop-path.path-index c.path-item.result
      c.loop-path.sources c.read_next.new.sources (λ t. with_files t MAX_TOTAL c.args.paths.now c.args.sources) c.loop-path.invariant.tree c.loop-path-test.true c.path-item.is
      c.loop-path.invariant.told c.in_ok-room.ensures.told;
  tree = c.in_ok-room.ensures.tree ∙ c.loop-path.invariant.tree;
  never_falls = le_trans c.loop-path.invariant.never_falls c.in_ok-room.ensures.never_falls;
  sound = stays_sound g.F.Files.is_sound g.F.Files.faults c.args.files.now c.loop-path.files c.read_next.new.files c.loop-path.invariant.sound c.in_ok-room.ensures.sound;
}
