use Rattle.std.proofs.Common.{◌≡◌, ◌⊎◌, List, ℕ, Option, Some, Result, Ok, inl, inr, ap, sym, subst, ◌∙◌}
use Rattle.dg_files.specs.Tree.{Tree}
use Rattle.dg_kinds_coll.specs.Defold.{defold_tables}
use Rattle.dg_words.specs.declared.task.Task.TheVariants.{Format}
use Rattle.dg_tool.specs.Format.{formatted_in}
use Rattle.dg_tool.specs.Input.{build_script}
use Rattle.dg_tool.specs.Out.{doing_of}
use Rattle.dg_tool.specs.Statement.{GoesBy, IsStarted, NeedsNoFiles}
use Rattle.dg_tool.proofs.Outputs.{errors-same}
use Rattle.dg_tool.proofs.Starts.{commands_sound, told_by, told_started}
use Rattle.dg_tool.proofs.start.task_start.Goals as goal

pub returns-in-Err-build_commands-clause-cause : goal.returns-in-Err-build_commands-clause-cause
returns-in-Err-build_commands-clause-cause g c = λ failed.
    absurd (commands_sound (λ commands. commands) c.in-Err-build_commands.refusal (build_script c.as_str-in-Build.result.now) c.in-Err-build_commands.ensures (errors-same failed))

pub returns-in-Format-clause-started : goal.returns-in-Format-clause-started
returns-in-Format-clause-started g c = λ t by. by_tree t by
  where
    path : List ℕ
    path = c.as_str-in-Format.result.now

    is_started : (t : Tree) → g.F.Files.tree c.args.files.now ≡ Some t → IsStarted g.O.Opener.editor defold_tables c.told-in-Format.result (doing_of defold_tables t c.args.task)
    is_started t is =
        subst (λ k. IsStarted g.O.Opener.editor defold_tables c.told-in-Format.result (doing_of defold_tables t k)) (sym (c.in-Format.is ∙ ap Format (sym c.as_str-in-Format.ensures)))
        (subst (λ r. IsStarted g.O.Opener.editor defold_tables r (doing_of defold_tables t (Format path))) (sym c.told-in-Format.ensures)
        (told_started g.O.Opener.editor defold_tables c.formatted_in.result (formatted_in t path) (told_by (g.F.Files.tree c.args.files.now) _ t c.formatted_in.ensures.told is)))

    by_tree : (t : Tree) → GoesBy (g.F.Files.tree c.args.files.now) (Ok c.args.task) t → IsStarted g.O.Opener.editor defold_tables c.told-in-Format.result (doing_of defold_tables t c.args.task)
    by_tree t (inl is) = is_started t is
    by_tree t (inr none) = absurd (subst (λ k. NeedsNoFiles (Ok k)) c.in-Format.is none)
