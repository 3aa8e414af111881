use Rattle.std.proofs.Common.{refl, subst}
use Rattle.dg_kinds_coll.specs.Defold.{defold_tables}
use Rattle.dg_tool.specs.Halts.{IsDue}
use Rattle.dg_tool.proofs.Endings.{end_due, end_no_desk}
use Rattle.dg_tool.proofs.Pieces.{plain-lines}
use Rattle.dg_tool.proofs.run.do_output.Goals as goal

pub returns-in-Ok-clause-no_desk : goal.returns-in-Ok-clause-no_desk
returns-in-Ok-clause-no_desk g c = end_no_desk c.args.output.status c.args.output.desk c.args.output.end

pub returns-in-Ok-clause-untouched : goal.returns-in-Ok-clause-untouched
returns-in-Ok-clause-untouched g c = λ plain. c.do_pieces.ensures.untouched (plain-lines defold_tables c.args.output.names c.args.output.pieces.items plain)

pub returns-in-Ok-clause-causes : goal.returns-in-Ok-clause-causes
returns-in-Ok-clause-causes g c =
    let due = end_due c.args.output.status c.args.output.desk c.args.output.end in
    record {
      files_never_fall = c.do_pieces.ensures.files_never_fall;
      out_never_falls = c.do_pieces.ensures.out_never_falls;
      file_cause = λ is. absurd (subst IsDue is due);
      sink_cause = λ is. absurd (subst IsDue is due);
    }

pub returns-in-Err-clause-untouched : goal.returns-in-Err-clause-untouched
returns-in-Err-clause-untouched g c = λ plain. c.do_pieces.ensures.untouched (plain-lines defold_tables c.args.output.names c.args.output.pieces.items plain)
