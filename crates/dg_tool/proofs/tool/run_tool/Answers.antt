use Rattle.std.proofs.Common.{◌≡◌, false, true, map, string_bytes, sym, ◌∙◌, subst}
use Rattle.dg_kinds_coll.specs.Defold.{defold_tables}
use Rattle.dg_words.specs.Tasks.{task_in}
use Rattle.dg_tool.specs.declared.ended.ToolDesk.TheVariants as tool
use Rattle.dg_tool.specs.Out.{doing_in}
use Rattle.dg_tool.specs.Statement.{IsDeskOfDoing, IsLeft, IsLeftAlone, IsLeftShared}
use Rattle.dg_tool.proofs.Endings.{doing_desk, needs_none, of_some}
use Rattle.dg_tool.proofs.tool.run_tool.Goals as goal

pub returns-in-Ok-true-clause-desk : goal.returns-in-Ok-true-clause-desk
returns-in-Ok-true-clause-desk g c = λ done t by.
    let doing = doing_in defold_tables t (task_in (map string_bytes c.args.words.now)) in let leaves = IsDeskOfDoing (IsLeftShared defold_tables) doing in
    let left = of_some c.played_beside-output.result (λ o. c.end_run.result.desk ≡ o.desk) _
    (c.end_run.ensures.desk (sym c.of_shared.ensures.status ∙ done)) c.played_beside-output.ensures.desk (λ o same desk. subst leaves (sym same) (desk t by)) in
    subst (λ crewed. IsDeskOfDoing (IsLeft defold_tables crewed) doing c.of_shared.result.desk) (sym c.in-Ok-true.field-0-test ∙ c.in-Ok-true.ensures)
    (subst (IsDeskOfDoing (IsLeft defold_tables true) doing) (sym c.of_shared.ensures.desk)
    (doing_desk (IsLeftShared defold_tables) (IsLeft defold_tables true) tool.Shared (λ s d is. is) doing c.end_run.result.desk left))

pub returns-in-Ok-true-clause-untouched : goal.returns-in-Ok-true-clause-untouched
returns-in-Ok-true-clause-untouched g c = λ none.
    c.end_run.ensures.untouched (c.played_beside-output.ensures.plain (needs_none (task_in (map string_bytes c.args.words.now)) none)) ∙ c.played_beside-output.ensures.untouched none

pub returns-in-Ok-false-clause-desk : goal.returns-in-Ok-false-clause-desk
returns-in-Ok-false-clause-desk g c = λ done t by.
    let doing = doing_in defold_tables t (task_in (map string_bytes c.args.words.now)) in
    subst (λ crewed. IsDeskOfDoing (IsLeft defold_tables crewed) doing c.of_alone.result.desk) (sym c.in-Ok-false.field-0-test ∙ c.in-Ok-false.ensures)
    (subst (IsDeskOfDoing (IsLeft defold_tables false) doing) (sym c.of_alone.ensures.desk)
    (doing_desk (IsLeftAlone defold_tables) (IsLeft defold_tables false) tool.Alone (λ s d is. is) doing c.run_alone.result.desk
    (c.run_alone.ensures.desk (sym c.of_alone.ensures.status ∙ done) t by)))
