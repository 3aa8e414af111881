use Rattle.std.proofs.Common.{refl}
use Rattle.dg_kinds_coll.specs.Defold.{defold_tables}
use Rattle.dg_deeds.proofs.Parts.{IsBegun-untouched}
use Rattle.dg_tool.specs.Seen.{piece_deeds}
use Rattle.dg_tool.proofs.doing.do_piece.Goals as goal

pub returns-in-Err-clause-begun : goal.returns-in-Err-clause-begun
returns-in-Err-clause-begun g c =
    IsBegun-untouched (piece_deeds defold_tables c.args.names.now c.args.piece) (g.F.Files.tree c.args.files.now) (g.F.Files.tree c.args.files.now)
    (g.S.Sink.bytes c.args.out.now) (g.S.Sink.bytes c.args.out.now) (refl, refl)
