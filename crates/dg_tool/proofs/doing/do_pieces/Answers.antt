use Rattle.std.proofs.Common.{◌≡◌, ◌++◌, ◌∷◌, [], List, sym, ap, ◌∙◌, le_trans, subst}
use Rattle.std.specs.Option.{option_map}
use Rattle.std.specs.Vec.Iter.{into_iter_items}
use Rattle.dg_deeds.specs.declared.deed.Deed.{Deed}
use Rattle.dg_deeds.specs.Deeds.{AreLines, IsBegun, text_after, tree_after}
use Rattle.dg_deeds.proofs.Parts.{IfErr-handed, IsBegun-first, IsBegun-second, lines-first, lines-second, text_after-told, tree_after-told}
use Rattle.dg_deeds.proofs.Sinks.{stays_sound}
use Rattle.dg_kinds_coll.specs.Defold.{defold_tables}
use Rattle.dg_tool.specs.Seen.{deeds_in, piece_deeds}
use Rattle.dg_tool.proofs.Pieces.{deeds-append, deeds-one}
use Rattle.dg_shared.proofs.Taking.{rest-next}
use Rattle.dg_tool.proofs.doing.do_pieces.Goals as goal

pub loop-piece-preserved : goal.loop-piece-preserved
loop-piece-preserved g c =
    let tree = g.F.Files.tree in let bytes = g.S.Sink.bytes in let names = c.args.names.now in
    let yielded = c.loop-piece.yielded in let piece = c.in-Some.piece in
    let before = deeds_in defold_tables names yielded in let one = piece_deeds defold_tables names piece in
    let more : before ++ one ≡ deeds_in defold_tables names (yielded ++ piece ∷ []) =
    ap (λ (ds : List Deed). before ++ ds) (sym (deeds-one defold_tables names piece)) ∙ sym (deeds-append defold_tables names yielded (piece ∷ [])) in
    record {
      tree =
          c.in_ok-do_piece.ensures.tree ∙ ap (option_map (tree_after one)) c.loop-piece.invariant.tree ∙ sym (tree_after-told before one (tree c.args.files.now))
          ∙ ap (λ ds. option_map (tree_after ds) (tree c.args.files.now)) more;
      text =
          c.in_ok-do_piece.ensures.text ∙ ap (option_map (text_after one)) c.loop-piece.invariant.text ∙ sym (text_after-told before one (bytes c.args.out.now))
          ∙ ap (λ ds. option_map (text_after ds) (bytes c.args.out.now)) more;
      rest = rest-next c.loop-piece.piece-iterator c.next.new.self c.next.result piece c.in-Some.is c.next.ensures.steps c.args.pieces.items yielded c.loop-piece.invariant.rest;
      untouched = λ are.
          let both = subst AreLines (sym more) are in
          c.in_ok-do_piece.ensures.untouched (lines-second before one both) ∙ c.loop-piece.invariant.untouched (lines-first before one both);
      files_never_fall = le_trans c.loop-piece.invariant.files_never_fall c.in_ok-do_piece.ensures.files_never_fall;
      out_never_falls = le_trans c.loop-piece.invariant.out_never_falls c.in_ok-do_piece.ensures.out_never_falls;
      files_sound =
          stays_sound g.F.Files.is_sound g.F.Files.faults c.args.files.now c.loop-piece.files c.do_piece.new.files c.loop-piece.invariant.files_sound c.in_ok-do_piece.ensures.files_sound;
      out_sound =
          stays_sound g.S.Sink.is_sound g.S.Sink.faults c.args.out.now c.loop-piece.out c.do_piece.new.out c.loop-piece.invariant.out_sound c.in_ok-do_piece.ensures.out_sound;
    }

pub returns-in_err-do_piece-clause-begun : goal.returns-in_err-do_piece-clause-begun
returns-in_err-do_piece-clause-begun g c =
    let tree = g.F.Files.tree in let bytes = g.S.Sink.bytes in let names = c.args.names.now in
    let yielded = c.loop-piece.yielded in let piece = c.in-Some.piece in let all = c.args.pieces.items in
    let before = deeds_in defold_tables names yielded in let one = piece_deeds defold_tables names piece in let left = into_iter_items c.next.new.self in
    let more : before ++ one ≡ deeds_in defold_tables names (yielded ++ piece ∷ []) =
    ap (λ (ds : List Deed). before ++ ds) (sym (deeds-one defold_tables names piece)) ∙ sym (deeds-append defold_tables names yielded (piece ∷ [])) in
    let rest : (yielded ++ piece ∷ []) ++ left ≡ all =
    rest-next c.loop-piece.piece-iterator c.next.new.self c.next.result piece c.in-Some.is c.next.ensures.steps all yielded c.loop-piece.invariant.rest in
    let whole : (before ++ one) ++ deeds_in defold_tables names left ≡ deeds_in defold_tables names all =
    ap (λ (ds : List Deed). ds ++ deeds_in defold_tables names left) more ∙ sym (deeds-append defold_tables names (yielded ++ piece ∷ []) left) ∙ ap (deeds_in defold_tables names) rest in
    let s = c.in_err-do_piece.field-0.0 in
    let begun : IsBegun s one (option_map (tree_after before) (tree c.args.files.now)) (tree c.do_piece.new.files) (option_map (text_after before) (bytes c.args.out.now)) (bytes c.do_piece.new.out) =
    subst (λ t. IsBegun s one t (tree c.do_piece.new.files) (option_map (text_after before) (bytes c.args.out.now)) (bytes c.do_piece.new.out)) c.loop-piece.invariant.tree
    (subst (λ b. IsBegun s one (tree c.loop-piece.files) (tree c.do_piece.new.files) b (bytes c.do_piece.new.out)) c.loop-piece.invariant.text c.in_err-do_piece.ensures.begun) in
    IfErr-handed (λ stop. IsBegun stop (deeds_in defold_tables names all) (tree c.args.files.now) (tree c.do_piece.new.files) (bytes c.args.out.now) (bytes c.do_piece.new.out))
    c.from_residual.result s c.from_residual.ensures
    (subst (λ ds. IsBegun s ds (tree c.args.files.now) (tree c.do_piece.new.files) (bytes c.args.out.now) (bytes c.do_piece.new.out)) whole
    (IsBegun-first s (before ++ one) (deeds_in defold_tables names left) (tree c.args.files.now) (tree c.do_piece.new.files) (bytes c.args.out.now) (bytes c.do_piece.new.out)
    (IsBegun-second s before one (tree c.args.files.now) (tree c.do_piece.new.files) (bytes c.args.out.now) (bytes c.do_piece.new.out) begun)))

pub returns-in_err-do_piece-clause-untouched : goal.returns-in_err-do_piece-clause-untouched
returns-in_err-do_piece-clause-untouched g c = λ are.
    let names = c.args.names.now in let yielded = c.loop-piece.yielded in let piece = c.in-Some.piece in let all = c.args.pieces.items in
    let before = deeds_in defold_tables names yielded in let one = piece_deeds defold_tables names piece in let left = into_iter_items c.next.new.self in
    let more : before ++ one ≡ deeds_in defold_tables names (yielded ++ piece ∷ []) =
    ap (λ (ds : List Deed). before ++ ds) (sym (deeds-one defold_tables names piece)) ∙ sym (deeds-append defold_tables names yielded (piece ∷ [])) in
    let rest : (yielded ++ piece ∷ []) ++ left ≡ all =
    rest-next c.loop-piece.piece-iterator c.next.new.self c.next.result piece c.in-Some.is c.next.ensures.steps all yielded c.loop-piece.invariant.rest in
    let whole : (before ++ one) ++ deeds_in defold_tables names left ≡ deeds_in defold_tables names all =
    ap (λ (ds : List Deed). ds ++ deeds_in defold_tables names left) more ∙ sym (deeds-append defold_tables names (yielded ++ piece ∷ []) left) ∙ ap (deeds_in defold_tables names) rest in
    let both = lines-first (before ++ one) (deeds_in defold_tables names left) (subst AreLines (sym whole) are) in
    c.in_err-do_piece.ensures.untouched (lines-second before one both) ∙ c.loop-piece.invariant.untouched (lines-first before one both)
