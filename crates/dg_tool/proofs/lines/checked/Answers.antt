use Rattle.std.proofs.Common.{◌≡◌, ◌++◌, ◌∷◌, [], List, ℕ, map, sym, ap, ◌∙◌, subst}
use Rattle.std.specs.Prelude.{Vec}
use Rattle.std.specs.declared.alloc.Global.{Global}
use Rattle.std.proofs.lemmas.List.{append-nil, map-append}
use Rattle.dg_base.specs.Refusal.{Gives}
use Rattle.dg_kinds_coll.specs.Defold.{defold_tables}
use Rattle.dg_asks.specs.Asks.{Ask}
use Rattle.dg_play.specs.declared.reply.Line.{Line}
use Rattle.dg_sources.specs.declared.bad.BadPlace.{BadPlace}
use Rattle.dg_tool.specs.declared.piece.Piece.{Piece}
use Rattle.dg_tool.specs.Out.{bad_lines, checked_lines}
use Rattle.dg_tool.specs.Seen.{fitting_pieces, line_piece, plain, seen_project}
use Rattle.dg_tool.proofs.Outputs.{plain-fitting}
use Rattle.dg_tool.proofs.lines.checked.Goals as goal

pub returns : goal.returns
returns g c =
    let project = c.args.project.now in let size = c.in_ok-size.size in let lines = checked_lines (seen_project g.O.Opener.editor project) in
    let piece = line_piece defold_tables project.begin.names in
    let same : (map plain (bad_lines c.as_slice.result.now) ++ map piece c.new-none.result.items) ++ plain size ∷ [] ≡ map plain lines =
    ap (λ (ls : List (Line Ask)). (map plain (bad_lines c.as_slice.result.now) ++ map piece ls) ++ plain size ∷ []) c.new-none.ensures.items
    ∙ ap (λ (ps : List Piece). ps ++ plain size ∷ []) (append-nil (map plain (bad_lines c.as_slice.result.now)))
    ∙ ap (λ (bad : List BadPlace). map plain (bad_lines bad) ++ plain size ∷ []) c.as_slice.ensures
    ∙ ap (λ (l : List ℕ). map plain (bad_lines project.bad) ++ plain l ∷ []) c.in_ok-size.ensures
    ∙ sym (map-append plain (bad_lines project.bad) _) in
    subst (Gives (λ (ps : Vec Piece Global). ps.items) c.pieces_of.result) (ap fitting_pieces same ∙ plain-fitting lines) c.pieces_of.ensures
