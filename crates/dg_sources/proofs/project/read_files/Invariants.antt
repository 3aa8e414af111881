use Rattle.std.proofs.Common.{◌≡◌, ◌≤◌, drop}
use Rattle.std.specs.Prelude.{IfSome}
use Rattle.dg_files.specs.Outcome.{StaysSound}
use Rattle.dg_sources.specs.declared.limits.TheConstants.{MAX_TOTAL}
use Rattle.dg_sources.specs.Project.{with_files}
use Rattle.dg_sources.proofs.project.read_files.Given as goal

abbrev pub invariant-loop-path : goal.invariant-loop-path
invariant-loop-path g l = record {
  told : IfSome (g.F.Files.tree l.initial.files) (λ t. with_files t l.room (drop l.path-index l.paths) l.sources ≡ with_files t MAX_TOTAL l.paths l.initial.sources);
  tree : g.F.Files.tree l.files ≡ g.F.Files.tree l.initial.files;
  never_falls : g.F.Files.faults l.initial.files ≤ g.F.Files.faults l.files;
  sound : StaysSound g.F.Files.is_sound g.F.Files.faults l.initial.files l.files;
}
