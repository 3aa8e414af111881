use Rattle.std.proofs.Common.{◌++◌, List, map, subst}
use Rattle.std.specs.Prelude.{Vec}
use Rattle.std.specs.Option.{option_map, option_to_list}
use Rattle.std.specs.declared.alloc.Global.{Global}
use Rattle.dg_base.specs.Refusal.{Gives}
use Rattle.dg_deeds.specs.declared.deed.Deed.{Deed}
use Rattle.dg_kinds_coll.specs.Defold.{defold_tables}
use Rattle.dg_tool.specs.declared.piece.Piece.{Piece}
use Rattle.dg_tool.specs.Out.{bad_lines, fitting}
use Rattle.dg_tool.specs.Seen.{deeds_in, line_piece, plain}
use Rattle.dg_tool.proofs.Pieces.{gives-deeds, played-pieces}
use Rattle.dg_tool.proofs.lines.printed.Goals as goal

pub returns : goal.returns
returns c =
    let names = c.args.names.now in let bad = bad_lines c.args.bad.now in let lines = c.args.lines.items in let last = c.args.last in
    subst (λ (ds : List Deed). Gives (λ (ps : Vec Piece Global). deeds_in defold_tables names ps.items) c.pieces_of.result (fitting ds)) (played-pieces defold_tables names bad lines last)
    (gives-deeds defold_tables names c.pieces_of.result ((map plain bad ++ map (line_piece defold_tables names) lines) ++ option_to_list (option_map plain last)) c.pieces_of.ensures)
