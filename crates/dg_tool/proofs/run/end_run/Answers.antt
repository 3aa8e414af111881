use Rattle.std.proofs.Common.{Err, ap, ◌∙◌, inl, subst}
use Rattle.dg_kinds_coll.specs.Defold.{defold_tables}
use Rattle.dg_tool.specs.Seen.{deeds_in}
use Rattle.dg_tool.specs.Statement.{AreDone, IsOutput, IsPlain}
use Rattle.dg_tool.proofs.Endings.{done_ends, end_due, lines_no_fault, refused_complete, refused_ends, refused_file_fault, refused_not_done, refused_not_usage, refused_nothing}
use Rattle.dg_tool.proofs.Pieces.{deeds-plain}
use Rattle.dg_tool.proofs.run.end_run.Goals as goal

pub returns-in-Ok-clause-ends : goal.returns-in-Ok-clause-ends
returns-in-Ok-clause-ends g c = λ due told.
    done_ends c.do_output.result.status (g.F.Files.tree c.args.files.now) (g.F.Files.tree c.do_output.new.files) (g.S.Sink.bytes c.args.out.now) (g.S.Sink.bytes c.do_output.new.out)
    defold_tables due c.in-Ok.output (subst (λ r. IsOutput defold_tables r due) c.in-Ok.is told) c.do_output.ensures.done

pub returns-in-Ok-clause-files_failed : goal.returns-in-Ok-clause-files_failed
returns-in-Ok-clause-files_failed g c = λ is failed.
    let o = c.in-Ok.output in let ended = c.do_output.result.status in let plain = subst IsPlain c.in-Ok.is is in
    let tree = g.F.Files.tree c.args.files.now in let tree_now = g.F.Files.tree c.do_output.new.files in let before = g.S.Sink.bytes c.args.out.now in let now = g.S.Sink.bytes c.do_output.new.out in
    absurd (lines_no_fault ended tree tree_now before now o.status (end_due o.status o.desk o.end) plain.0
    (subst (λ ds. AreDone o.status ds ended tree tree_now before now) (ap (deeds_in defold_tables o.names) plain.1 ∙ deeds-plain defold_tables o.names plain.0) c.do_output.ensures.done) failed)

pub returns-in-Err-clause-ends : goal.returns-in-Err-clause-ends
returns-in-Err-clause-ends g c = λ due told.
    refused_ends g.row.D.Denot defold_tables due c.put_refusal.result (g.S.Sink.bytes c.args.out.now) (g.S.Sink.bytes c.put_refusal.new.out) c.in-Err.refusal (g.F.Files.tree c.args.files.now)
    (subst (λ r. IsOutput defold_tables r due) c.in-Err.is told) c.put_refusal.ensures.put

pub returns-in-Err-clause-complete : goal.returns-in-Err-clause-complete
returns-in-Err-clause-complete g c = λ due told no_fault files sink.
    refused_complete g.row.D.Denot defold_tables due c.put_refusal.result (g.S.Sink.bytes c.args.out.now) (g.S.Sink.bytes c.put_refusal.new.out) c.in-Err.refusal
    (subst (λ r. IsOutput defold_tables r due) c.in-Err.is told) c.put_refusal.ensures.put (λ f. no_fault (c.in-Err.is ∙ ap Err f)) (λ s. sink (c.put_refusal.ensures.cause s))

pub returns-in-Err-clause-desk : goal.returns-in-Err-clause-desk
returns-in-Err-clause-desk g c = λ is.
    absurd (refused_not_done c.put_refusal.result (g.S.Sink.bytes c.args.out.now) (g.S.Sink.bytes c.put_refusal.new.out) c.in-Err.refusal c.put_refusal.ensures.put is)

pub returns-in-Err-clause-usage : goal.returns-in-Err-clause-usage
returns-in-Err-clause-usage g c = λ is.
    absurd (refused_not_usage c.put_refusal.result (g.S.Sink.bytes c.args.out.now) (g.S.Sink.bytes c.put_refusal.new.out) c.in-Err.refusal c.put_refusal.ensures.put is)

pub returns-in-Err-clause-files_failed : goal.returns-in-Err-clause-files_failed
returns-in-Err-clause-files_failed g c = λ plain.
    refused_nothing c.put_refusal.result (g.S.Sink.bytes c.args.out.now) (g.S.Sink.bytes c.put_refusal.new.out) c.in-Err.refusal c.put_refusal.ensures.put

pub returns-in-Err-clause-file_cause : goal.returns-in-Err-clause-file_cause
returns-in-Err-clause-file_cause g c = λ is.
    inl (c.in-Err.is ∙ ap Err (refused_file_fault c.put_refusal.result (g.S.Sink.bytes c.args.out.now) (g.S.Sink.bytes c.put_refusal.new.out) c.in-Err.refusal c.put_refusal.ensures.put is))
