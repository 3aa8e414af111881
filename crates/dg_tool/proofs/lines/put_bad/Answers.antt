use Rattle.std.proofs.Common.{◌≡◌, ◌+◌, ◌++◌, ◌∷◌, [], List, map, take, sym, ap, ◌∙◌}
use Rattle.std.proofs.lemmas.List.{take_all}
use Rattle.dg_sources.specs.declared.bad.BadPlace.{BadPlace}
use Rattle.dg_tool.specs.declared.piece.Piece.{Piece}
use Rattle.dg_tool.specs.Out.{bad_line, bad_lines}
use Rattle.dg_tool.specs.Seen.{fitting_pieces, plain}
use Rattle.dg_tool.proofs.Outputs.{map_both}
use Rattle.dg_tool.proofs.Tellings.{gives-handed}
use Rattle.dg_tool.proofs.TextSizes.{first_unfit, pieces-behind}
use Rattle.dg_tool.proofs.lines.put_bad.Goals as goal

pub returns : goal.returns
returns c =
    let before = c.args.page.now in let bad = c.args.bad.now in
    let piece : BadPlace → Piece = λ p. plain (bad_line p) in
    let whole : c.loop-place.page ≡ before ++ map plain (bad_lines bad) =
    c.loop-place.invariant ∙ ap (λ (ps : List BadPlace). before ++ map piece ps) (take_all c.loop-place.place-index bad c.loop-place-test.false)
    ∙ ap (λ (ps : List Piece). before ++ ps) (sym (map_both plain bad_line bad)) in
    ap fitting_pieces (sym whole) ∙ c.is_fitting.ensures

pub returns-in_err-put : goal.returns-in_err-put
returns-in_err-put c =
    let before = c.args.page.now in let bad = c.args.bad.now in let i = c.loop-place.place-index in let text = c.in_ok-bad_place.field-0 in
    let piece : BadPlace → Piece = λ p. plain (bad_line p) in
    let all : map plain (bad_lines bad) ≡ map piece bad = map_both plain bad_line bad in
    let whole : c.loop-place.page ++ c.plain.result ∷ [] ≡ before ++ map piece (take (i + 1) bad) =
    ap (λ (ps : List Piece). ps ++ c.plain.result ∷ []) c.loop-place.invariant
    ∙ ap (λ (p : Piece). (before ++ map piece (take i bad)) ++ p ∷ []) (c.plain.ensures ∙ ap plain c.in_ok-bad_place.ensures)
    ∙ pieces-behind piece bad i c.place-item.result before c.place-item.is c.loop-place-test.true in
    gives-handed (λ (x : Unit {0}). c.put.new.self) _ c.from_residual-in_err-put.result c.in_err-put.field-0.0
    (fitting_pieces (c.loop-place.page ++ c.plain.result ∷ [])) (fitting_pieces (before ++ map plain (bad_lines bad))) c.from_residual-in_err-put.ensures
    (λ h is. ap (λ (ps : List Piece). fitting_pieces (before ++ ps)) all ∙ first_unfit piece bad (i + 1) before h (ap fitting_pieces (sym whole) ∙ is)) c.in_err-put.ensures
