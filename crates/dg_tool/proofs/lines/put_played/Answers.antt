use Rattle.std.proofs.Common.{◌≡◌, ◌++◌, ◌∷◌, [], List, map, sym, ap, ◌∙◌, append_assoc}
use Rattle.std.specs.Vec.Iter.{into_iter_items}
use Rattle.std.proofs.lemmas.List.{map-append}
use Rattle.dg_kinds_coll.specs.Defold.{defold_tables}
use Rattle.dg_asks.specs.Asks.{Ask}
use Rattle.dg_play.specs.declared.reply.Line.{Line}
use Rattle.dg_tool.specs.declared.piece.Piece.{Piece}
use Rattle.dg_tool.specs.Seen.{fitting_pieces, line_piece}
use Rattle.dg_shared.proofs.Taking.{rest-next}
use Rattle.dg_tool.proofs.Tellings.{gives-handed}
use Rattle.dg_tool.proofs.TextSizes.{fitting-front, fitting-same}
use Rattle.dg_tool.proofs.lines.put_played.Goals as goal

pub loop-line-preserved : goal.loop-line-preserved
loop-line-preserved c =
    let before = c.args.page.now in let yielded = c.loop-line.yielded in let line = c.in-Some.line in
    let piece : Line Ask → Piece = line_piece defold_tables c.args.names.now in
    record {
      page =
          fitting-same (c.loop-line.page ++ c.in_ok-piece_of.field-0 ∷ []) c.put.new.self c.in_ok-put.ensures
          ∙ ap (λ (ps : List Piece). ps ++ c.in_ok-piece_of.field-0 ∷ []) c.loop-line.invariant.page
          ∙ ap (λ (p : Piece). (before ++ map piece yielded) ++ p ∷ []) c.in_ok-piece_of.ensures
          ∙ append_assoc before (map piece yielded) (piece line ∷ []) ∙ ap (λ (ps : List Piece). before ++ ps) (sym (map-append piece yielded (line ∷ [])));
      rest = rest-next c.loop-line.line-iterator c.next.new.self c.next.result line c.in-Some.is c.next.ensures.steps c.args.lines.items yielded c.loop-line.invariant.rest;
    }

pub returns-in_err-put : goal.returns-in_err-put
returns-in_err-put c =
    let before = c.args.page.now in let yielded = c.loop-line.yielded in let line = c.in-Some.line in let lines = c.args.lines.items in
    let piece : Line Ask → Piece = line_piece defold_tables c.args.names.now in
    let left = into_iter_items c.next.new.self in
    let rest : (yielded ++ line ∷ []) ++ left ≡ lines =
    rest-next c.loop-line.line-iterator c.next.new.self c.next.result line c.in-Some.is c.next.ensures.steps lines yielded c.loop-line.invariant.rest in
    let so_far = c.loop-line.page ++ c.in_ok-piece_of.field-0 ∷ [] in
    let whole : so_far ++ map piece left ≡ before ++ map piece lines =
    ap (λ (ps : List Piece). (ps ++ c.in_ok-piece_of.field-0 ∷ []) ++ map piece left) c.loop-line.invariant.page
    ∙ ap (λ (p : Piece). ((before ++ map piece yielded) ++ p ∷ []) ++ map piece left) c.in_ok-piece_of.ensures
    ∙ ap (λ (ps : List Piece). ps ++ map piece left) (append_assoc before (map piece yielded) (piece line ∷ []) ∙ ap (λ (ps : List Piece). before ++ ps) (sym (map-append piece yielded (line ∷ []))))
    ∙ append_assoc before (map piece (yielded ++ line ∷ [])) (map piece left)
    ∙ ap (λ (ps : List Piece). before ++ ps) (sym (map-append piece (yielded ++ line ∷ []) left) ∙ ap (map piece) rest) in
    gives-handed (λ (x : Unit {0}). c.put.new.self) _ c.from_residual-in_err-put.result c.in_err-put.field-0.0
    (fitting_pieces so_far) (fitting_pieces (before ++ map piece lines)) c.from_residual-in_err-put.ensures
    (λ h is. ap fitting_pieces (sym whole) ∙ fitting-front so_far (map piece left) h is) c.in_err-put.ensures
