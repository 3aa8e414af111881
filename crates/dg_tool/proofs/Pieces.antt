-- What pieces make a run do.
use Rattle.std.proofs.Common.{◌≡◌, ℕ, List, [], ◌∷◌, ◌++◌, map, flat_map, Option, Some, None, Result, Ok, Err, refl, sym, ap, ◌∙◌, append_assoc, subst}
use Rattle.std.specs.Option.{option_map, option_to_list}
use Rattle.std.proofs.lemmas.Grind.{flat_map-append}
use Rattle.std.proofs.lemmas.List.{append-nil}
use Rattle.dg_base.specs.declared.answer.Answer.{Answer}
use Rattle.dg_base.specs.declared.answer.Answer.TheVariants as answer
use Rattle.std.specs.Prelude.{Vec}
use Rattle.std.specs.declared.alloc.Global.{Global}
use Rattle.dg_base.specs.Refusal.{Gives}
use Rattle.dg_base.specs.declared.refusal.Refusal.{Refusal}
use Rattle.dg_base.specs.declared.refusal.Refusal.TheVariants as refusal
use Rattle.dg_base.specs.Tables.{Tables}
use Rattle.dg_base.specs.Value.{value_at}
use Rattle.dg_build.specs.declared.target.Target.{Target}
use Rattle.dg_build.specs.Targets.{targets}
use Rattle.dg_deeds.specs.declared.deed.Deed.{Deed}
use Rattle.dg_deeds.specs.declared.deed.Deed.TheVariants.{Put, Write}
use Rattle.dg_deeds.specs.Deeds.{AreLines, lines_in}
use Rattle.dg_deeds.proofs.Parts.{lines-are}
use Rattle.dg_play.specs.declared.reply.Line.{Line}
use Rattle.dg_play.specs.declared.reply.Reply.{Reply as CodeReply}
use Rattle.dg_play.specs.declared.reply.Reply.TheVariants as reply
use Rattle.dg_asks.specs.Asks.{Ask}
use Rattle.dg_play.specs.Seen.{line_of, reply_of}
use Rattle.dg_tool.specs.declared.halt.Halt.{Halt}
use Rattle.dg_tool.specs.declared.piece.Piece.{Piece}
use Rattle.dg_tool.specs.Out.{built_deeds, fitting, line_deeds, line_text, reply_deeds, unless_large, write_of}
use Rattle.dg_tool.specs.Seen.{ArePlain, built_by, built_of, deeds_in, fitting_pieces, line_piece, piece_deeds, plain}
use Rattle.dg_tool.proofs.TextSizes.{accepted-small, fitting-same, large-is, lines_of, refused-large, refused-why, small-is}

-- ---- the lines among deeds

lines_in-append : (ds es : List Deed) → lines_in (ds ++ es) ≡ lines_in ds ++ lines_in es
lines_in-append [] es = refl
lines_in-append (Write path bytes ∷ ds) es = lines_in-append ds es
lines_in-append (Put line ∷ ds) es = ap (λ (ls : List (List ℕ)). line ∷ ls) (lines_in-append ds es)

no_lines-writes : (ts : List Target) → lines_in (map write_of ts) ≡ []
no_lines-writes [] = refl
no_lines-writes (t ∷ ts) = no_lines-writes ts

no_lines-built : (names : List (List ℕ)) (a : Answer) → lines_in (built_deeds a names) ≡ []
no_lines-built names (answer.Good d) = no_lines-writes (targets d names)
no_lines-built names (answer.Bad fs) = refl
no_lines-built names answer.Cycle = refl

module _ (t : Tables) (names : List (List ℕ)) where
  no_lines-of : (o : Option Ask) → lines_in (built_of t names o) ≡ []
  no_lines-of None = refl
  no_lines-of (Some a) = no_lines-built names (value_at t a.revision.graph a.at)

  one_line : (p : Piece) → lines_in (piece_deeds t names p) ≡ p.line ∷ []
  one_line p = lines_in-append (built_of t names p.built) (Put p.line ∷ []) ∙ ap (λ (ls : List (List ℕ)). ls ++ p.line ∷ []) (no_lines-of p.built)

  pub lines-deeds : (ps : List Piece) → lines_in (deeds_in t names ps) ≡ lines_of ps
  lines-deeds [] = refl
  lines-deeds (p ∷ ps) =
      lines_in-append (piece_deeds t names p) (deeds_in t names ps) ∙ ap (λ (ls : List (List ℕ)). ls ++ lines_in (deeds_in t names ps)) (one_line p)
      ∙ ap (λ (ls : List (List ℕ)). p.line ∷ ls) (lines-deeds ps)

  -- ---- pieces one behind the other

  pub deeds-append : (ps qs : List Piece) → deeds_in t names (ps ++ qs) ≡ deeds_in t names ps ++ deeds_in t names qs
  deeds-append ps qs = flat_map-append (piece_deeds t names) ps qs

  pub deeds-one : (p : Piece) → deeds_in t names (p ∷ []) ≡ piece_deeds t names p
  deeds-one p = append-nil (piece_deeds t names p)

  pub deeds-plain : (ls : List (List ℕ)) → deeds_in t names (map plain ls) ≡ map Put ls
  deeds-plain [] = refl
  deeds-plain (l ∷ ls) = ap (λ (ds : List Deed). Put l ∷ ds) (deeds-plain ls)

  pub plain-lines : (ps : List Piece) → ArePlain ps → AreLines (deeds_in t names ps)
  plain-lines ps plain = subst AreLines (sym (ap (deeds_in t names) plain.1 ∙ deeds-plain plain.0)) (lines-are plain.0)

  pub deeds-some : (line : Option (List ℕ)) → deeds_in t names (option_to_list (option_map plain line)) ≡ map Put (option_to_list line)
  deeds-some None = refl
  deeds-some (Some line) = refl

  by_reply : (r : CodeReply Ask) → built_of t names (built_by (reply_of r)) ≡ reply_deeds t names (reply_of r)
  by_reply reply.Done = refl
  by_reply reply.Empty = refl
  by_reply reply.LineFull = refl
  by_reply reply.NothingToUndo = refl
  by_reply reply.NothingToRedo = refl
  by_reply reply.NoName = refl
  by_reply reply.NoLabel = refl
  by_reply (reply.Misses step missing) = refl
  by_reply (reply.Refused step code) = refl
  by_reply reply.PinUsed = refl
  by_reply reply.PinsFull = refl
  by_reply (reply.PinnedAt number) = refl
  by_reply reply.NoPin = refl
  by_reply (reply.Answers a) = refl
  by_reply (reply.Builds a) = refl

  pub deeds-lines : (lines : List (Line Ask)) → deeds_in t names (map (line_piece t names) lines) ≡ flat_map (λ l. line_deeds t names (line_of l)) lines
  deeds-lines [] = refl
  deeds-lines (l ∷ ls) =
      ap (λ (ds : List Deed). (ds ++ Put (line_text t names (line_of l)) ∷ []) ++ deeds_in t names (map (line_piece t names) ls)) (by_reply l.reply)
      ∙ ap (λ (ds : List Deed). line_deeds t names (line_of l) ++ ds) (deeds-lines ls)

  -- ---- where the lines fit, so do the deeds

  pub fitting-ok : (ps qs : List Piece) → fitting_pieces ps ≡ Ok qs → fitting (deeds_in t names ps) ≡ Ok (deeds_in t names qs)
  fitting-ok ps qs is =
      let small = accepted-small (lines_of ps) ps qs is in
      ap (λ (ls : List (List ℕ)). unless_large ls (deeds_in t names ps)) (lines-deeds ps) ∙ small-is (lines_of ps) (deeds_in t names ps) small ∙ ap Ok (ap (deeds_in t names) (sym (fitting-same ps qs is)))

  pub fitting-err : (ps : List Piece) (h : Halt) → fitting_pieces ps ≡ Err h → fitting (deeds_in t names ps) ≡ Err h
  fitting-err ps h is =
      let large = refused-large (lines_of ps) ps h is in
      ap (λ (ls : List (List ℕ)). unless_large ls (deeds_in t names ps)) (lines-deeds ps) ∙ large-is (lines_of ps) (deeds_in t names ps) large
      ∙ ap Err (sym (refused-why (lines_of ps) ps h is))

  pub gives-deeds : (r : Result (Vec Piece Global) (Refusal Halt)) (ps : List Piece) → Gives (λ (qs : Vec Piece Global). qs.items) r (fitting_pieces ps) →
      Gives (λ (qs : Vec Piece Global). deeds_in t names qs.items) r (fitting (deeds_in t names ps))
  gives-deeds (Ok qs) ps is = fitting-ok ps qs.items is
  gives-deeds (Err (refusal.Because h)) ps is = fitting-err ps h is
  gives-deeds (Err refusal.NoMemory) ps is = tt

  -- the pieces of a script that was played
  pub played-pieces : (bad : List (List ℕ)) (lines : List (Line Ask)) (last : Option (List ℕ)) →
      deeds_in t names ((map plain bad ++ map (line_piece t names) lines) ++ option_to_list (option_map plain last))
      ≡ map Put bad ++ (flat_map (λ l. line_deeds t names (line_of l)) lines ++ map Put (option_to_list last))
  played-pieces bad lines last =
      let plays : List Deed = flat_map (λ l. line_deeds t names (line_of l)) lines in
      deeds-append (map plain bad ++ map (line_piece t names) lines) (option_to_list (option_map plain last))
      ∙ ap (λ (ds : List Deed). ds ++ deeds_in t names (option_to_list (option_map plain last))) (deeds-append (map plain bad) (map (line_piece t names) lines))
      ∙ ap (λ (ds : List Deed). (deeds_in t names (map plain bad) ++ deeds_in t names (map (line_piece t names) lines)) ++ ds) (deeds-some last)
      ∙ ap (λ (ds : List Deed). (ds ++ deeds_in t names (map (line_piece t names) lines)) ++ map Put (option_to_list last)) (deeds-plain bad)
      ∙ ap (λ (ds : List Deed). (map Put bad ++ ds) ++ map Put (option_to_list last)) (deeds-lines lines)
      ∙ append_assoc (map Put bad) plays (map Put (option_to_list last))
