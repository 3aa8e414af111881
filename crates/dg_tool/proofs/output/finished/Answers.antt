use Rattle.std.proofs.Common.{◌≡◌, List, ◌++◌, Ok, map, flat_map, sym, ap, ◌∙◌, subst}
use Rattle.dg_base.specs.Refusal.{Gives}
use Rattle.dg_deeds.specs.declared.deed.Deed.TheVariants.{Put}
use Rattle.dg_kinds_coll.specs.Defold.{defold_tables}
use Rattle.dg_play.specs.Seen.{line_of}
use Rattle.dg_sources.specs.declared.bad.BadPlace.{BadPlace}
use Rattle.dg_tool.specs.declared.start.Telling.{Telling}
use Rattle.dg_tool.specs.Out.{bad_lines, fitting, line_deeds, out_of_play, played_deeds, played_from, work_from}
use Rattle.dg_tool.specs.Seen.{deeds_of, stats_line_of}
use Rattle.dg_tool.specs.Statement.{IsOutput}
use Rattle.dg_tool.proofs.Outputs.{closed-deeds, play_output}
use Rattle.dg_tool.proofs.output.finished.Goals as goal

pub returns-in-Lines-clause-told : goal.returns-in-Lines-clause-told
returns-in-Lines-clause-told g c = λ s closes.
    let frame = c.args.frame in let ending = c.args.ending in let stats = c.in-Lines.stats in let p = played_from defold_tables s in
    let told = subst
    (λ (bad : List BadPlace). Gives (deeds_of defold_tables) c.lined.result
    (fitting (map Put (bad_lines bad) ++ (flat_map (λ l. line_deeds defold_tables ending.names (line_of l)) ending.lines.items ++ map Put (stats_line_of stats ending.work)))))
    c.as_slice.ensures c.lined.ensures.told in
    subst (λ (how : Telling). IsOutput defold_tables c.lined.result (out_of_play defold_tables how (Ok s))) (sym c.in-Lines.is)
    (play_output defold_tables p (played_deeds defold_tables stats s.bad p (work_from defold_tables s)) c.lined.result c.lined.ensures.status
    (subst (λ ds. Gives (deeds_of defold_tables) c.lined.result (fitting ds)) (closed-deeds defold_tables s frame ending stats c.in-Lines.is closes) told))
