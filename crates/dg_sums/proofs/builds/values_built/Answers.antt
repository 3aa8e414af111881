use Rattle.std.proofs.Common.{◌∙◌, [], map, sym, ap}
use Rattle.std.proofs.Math.ListN.{get_or-map}
use Rattle.std.proofs.lemmas.List.{length-map}
use Rattle.dg_kinds_coll.specs.Defold.{defold_tables}
use Rattle.dg_build.proofs.Kept.{push_kept}
use Rattle.dg_play.specs.Play.{Line}
use Rattle.dg_play.specs.Seen.{line_of}
use Rattle.dg_sums.specs.Builds.{value_built}
use Rattle.dg_sums.proofs.builds.values_built.Goals as goal

pub loop-line-preserved : goal.loop-line-preserved
loop-line-preserved c =
    push_kept (λ (l : Line). value_built defold_tables l.reply) (map line_of c.args.lines.now) c.loop-line.line-index (line_of c.line-item.result) [] _ _
    (rw (length-map c.args.lines.now line_of) c.loop-line-test.true)
    (ap line_of c.line-item.is ∙ sym (get_or-map line_of c.args.lines.now c.loop-line.line-index c.line-item.result))
    c.in_ok-push_built.ensures
    c.loop-line.invariant
