use Rattle.std.proofs.Common.{◌≡◌, ℕ, Option, map, string_bytes, ap, ◌∙◌, inl, inr, le_trans, subst, sym}
use Rattle.dg_deeds.proofs.Sinks.{stays_sound}
use Rattle.dg_kinds_coll.specs.Defold.{defold_tables}
use Rattle.dg_words.specs.Paths.{usage as no_task}
use Rattle.dg_words.specs.Tasks.{task_in}
use Rattle.dg_tool.specs.declared.status.Status.TheVariants as status
use Rattle.dg_tool.specs.Out.{doing_in, out_of}
use Rattle.dg_tool.specs.Statement.{EndsAs, GoesBy, IsDeskOfDoing, IsLeftAlone, made_by}
use Rattle.dg_tool.proofs.Endings.{needs_none, of_some, rose_both}
use Rattle.dg_tool.proofs.run.run_alone.Goals as goal

pub returns-clause-ends : goal.returns-clause-ends
returns-clause-ends g c = λ t by.
    let due = out_of defold_tables t (map string_bytes c.args.words.now) in
    subst (λ tree. EndsAs due c.end_run.result.status tree (g.F.Files.tree c.end_run.new.files) (g.S.Sink.bytes c.args.out.now) (g.S.Sink.bytes c.end_run.new.out))
    c.played_alone-output.ensures.tree (c.end_run.ensures.ends due (c.played_alone-output.ensures.told t by))

pub returns-clause-causes : goal.returns-clause-causes
returns-clause-causes g c =
    let faults = g.F.Files.faults in
    record {
      files_never_fall = le_trans c.played_alone-output.ensures.never_falls c.end_run.ensures.files_never_fall;
      out_never_falls = c.end_run.ensures.out_never_falls;
      file_cause = λ is. rose_both (faults c.args.files.now) (faults c.played_alone-output.new.files) (faults c.end_run.new.files)
          c.played_alone-output.ensures.never_falls c.end_run.ensures.files_never_fall c.played_alone-output.ensures.cause (c.end_run.ensures.file_cause is);
      sink_cause = c.end_run.ensures.sink_cause;
    }

pub returns-clause-complete : goal.returns-clause-complete
returns-clause-complete g c = λ t by files sink.
    let faults = g.F.Files.faults in
    let rose = rose_both (faults c.args.files.now) (faults c.played_alone-output.new.files) (faults c.end_run.new.files)
    c.played_alone-output.ensures.never_falls c.end_run.ensures.files_never_fall c.played_alone-output.ensures.cause in
    c.end_run.ensures.complete (out_of defold_tables t (map string_bytes c.args.words.now)) (c.played_alone-output.ensures.told t by)
    (λ failed. files (rose (inl failed))) (λ more. files (rose (inr more))) sink

pub returns-clause-desk : goal.returns-clause-desk
returns-clause-desk g c = λ done t by.
    let leaves = IsDeskOfDoing (IsLeftAlone defold_tables) (doing_in defold_tables t (task_in (map string_bytes c.args.words.now))) in
    of_some c.played_alone-output.result (λ o. c.end_run.result.desk ≡ o.desk) (λ o. (t : _) → GoesBy (g.F.Files.tree c.args.files.now) (task_in (map string_bytes c.args.words.now)) t →
    IsDeskOfDoing (IsLeftAlone defold_tables) (doing_in defold_tables t (task_in (map string_bytes c.args.words.now))) o.desk)
    (c.end_run.ensures.desk done) c.played_alone-output.ensures.desk (λ o same desk. subst leaves (sym same) (desk t by))

pub returns-clause-work : goal.returns-clause-work
returns-clause-work g c = λ done t by.
    of_some c.played_alone-output.result (λ o. c.end_run.result.desk ≡ o.desk) _
    (c.end_run.ensures.desk done) c.played_alone-output.ensures.work (λ o same work. work t by)

pub returns-clause-usage : goal.returns-clause-usage
returns-clause-usage g c = λ is.
    of_some c.played_alone-output.result (λ o. o.status ≡ status.Usage) (λ o. o.status ≡ status.Usage → task_in (map string_bytes c.args.words.now) ≡ no_task)
    (c.end_run.ensures.usage is) c.played_alone-output.ensures.usage (λ o so none. none so)

pub returns-clause-untouched : goal.returns-clause-untouched
returns-clause-untouched g c = λ none.
    c.end_run.ensures.untouched (c.played_alone-output.ensures.plain (needs_none (task_in (map string_bytes c.args.words.now)) none)) ∙ c.played_alone-output.ensures.untouched none

pub returns-clause-tree : goal.returns-clause-tree
returns-clause-tree g c = λ nothing. ap g.F.Files.tree (c.end_run.ensures.untouched (c.played_alone-output.ensures.plain nothing)) ∙ c.played_alone-output.ensures.tree

pub returns-clause-files_failed : goal.returns-clause-files_failed
returns-clause-files_failed g c = λ nothing. c.end_run.ensures.files_failed (c.played_alone-output.ensures.plain nothing)

pub returns-clause-files_sound : goal.returns-clause-files_sound
returns-clause-files_sound g c =
    stays_sound g.F.Files.is_sound g.F.Files.faults c.args.files.now c.played_alone-output.new.files c.end_run.new.files c.played_alone-output.ensures.sound c.end_run.ensures.files_sound
