-- What is known before the first put.
use Rattle.std.proofs.Common.{◌≡◌, ℕ, List, [], ◌∷◌, ◌++◌, map, flat_map, cond, Bool, true, false, Option, Result, Ok, Err, refl, sym, ap, ◌∙◌, subst}
use Rattle.std.specs.Prelude.{IfOk}
use Rattle.dg_base.specs.Tables.{Tables}
use Rattle.std.specs.Prelude.{Vec}
use Rattle.std.specs.declared.alloc.Global.{Global}
use Rattle.dg_base.specs.Refusal.{Gives, and_then}
use Rattle.dg_base.specs.declared.refusal.Refusal.{Refusal}
use Rattle.dg_play.specs.declared.ending.Ending.{Ending}
use Rattle.dg_play.specs.declared.ending.WorkDone.{WorkDone}
use Rattle.dg_play.specs.Seen.{line_of}
use Rattle.dg_sources.specs.declared.bad.BadPlace.{BadPlace}
use Rattle.dg_play.specs.Play.{Played}
use Rattle.dg_tool.specs.declared.status.Status.TheVariants as status
use Rattle.dg_play.specs.Work.{Work}
use Rattle.dg_tool.specs.declared.halt.Halt.{Halt}
use Rattle.dg_tool.specs.declared.halt.Halt.TheVariants as halt
use Rattle.dg_tool.specs.declared.due.Output.{Output}
use Rattle.dg_tool.specs.Text.{stats_text}
use Rattle.dg_deeds.specs.declared.deed.Deed.{Deed}
use Rattle.dg_deeds.specs.declared.deed.Deed.TheVariants.{Put}
use Rattle.dg_tool.specs.declared.halt.Limit.TheVariants as limit
use Rattle.dg_tool.specs.declared.piece.Piece.{Piece}
use Rattle.dg_tool.specs.declared.start.Frame.{Frame}
use Rattle.dg_tool.specs.declared.start.Telling.TheVariants.{Lines}
use Rattle.dg_tool.specs.Input.{Start}
use Rattle.dg_tool.specs.Out.{Doing, Tells, bad_lines, fitting, is_large, line_deeds, out_of_doing, out_of_fitting, played_deeds, played_from, stats_lines, unless_large, work_from}
use Rattle.dg_tool.specs.Seen.{ArePlain, Closes, all_plain, deeds_in, deeds_of, fitting_pieces, line_in, plain, stats_line_of, tells_work}
use Rattle.dg_tool.specs.Statement.{IsOutput}
use Rattle.dg_tool.proofs.Pieces.{deeds-plain}
use Rattle.dg_tool.proofs.TextSizes.{not-fault}
use Rattle.dg_tool.proofs.Tellings.{told-of, told-out}

pub map_both : {X Y Z : Type 0} (f : Y → Z) (g : X → Y) (xs : List X) → map f (map g xs) ≡ map (λ x. f (g x)) xs
map_both f g [] = refl
map_both f g (x ∷ xs) = ap (λ ys. f (g x) ∷ ys) (map_both f g xs)

pub flat_both : {X Y Z : Type 0} (f : Y → List Z) (g : X → Y) (xs : List X) → flat_map f (map g xs) ≡ flat_map (λ x. f (g x)) xs
flat_both f g [] = refl
flat_both f g (x ∷ xs) = ap (λ zs. f (g x) ++ zs) (flat_both f g xs)

-- the line on the work tells three numbers of it
pub stats-same : (stats : Bool) (done : WorkDone) (w : Work) → (stats ≡ true → (done.made ≡ w.made) × (done.kept ≡ w.kept) × (done.late ≡ w.late)) → stats_line_of stats done ≡ stats_lines stats w
stats-same false done w same = refl
stats-same true done w same =
    ap (λ n. (stats_text n done.kept done.late ++ 10 ∷ []) ∷ []) (same refl).0 ∙ ap (λ n. (stats_text w.made n done.late ++ 10 ∷ []) ∷ []) (same refl).1
    ∙ ap (λ n. (stats_text w.made w.kept n ++ 10 ∷ []) ∷ []) (same refl).2

-- all is done
pub fit_output : {D : Type 0} (t : Tables) (p : Played) (due : List Deed) (o : Output D) → o.status ≡ status.Done → fitting due ≡ Ok (deeds_of t o) → IsOutput t (Ok o) (out_of_fitting p (fitting due))
fit_output t p due o is fits = subst (λ (r : Result (List Deed) Halt). IsOutput t (Ok o) (out_of_fitting p r)) (sym fits) (sym is, refl)

-- what is given of the deeds of a play is its output
pub play_output : {D : Type 0} (t : Tables) (p : Played) (due : List Deed) (r : Result (Output D) (Refusal Halt)) → IfOk r (λ o. o.status ≡ status.Done) → Gives (deeds_of t) r (fitting due) →
    IsOutput t r (out_of_fitting p (fitting due))
play_output t p due (Ok o) is gives = fit_output t p due o is gives
play_output {D} t p due (Err e) is gives = told-out (deeds_of {D = D} t) (out_of_fitting p) (λ _. refl) D t e (fitting due) (told-of (deeds_of {D = D} t) (Err e) (fitting due) gives)

-- the deeds of a play that has ended, and whose frame is that of its start
pub closed-deeds : {D : Type 0} (t : Tables) (s : Start) (f : Frame) (e : Ending D) (stats : Bool) → f.telling ≡ Lines stats → Closes t s f e →
    map Put (bad_lines f.bad) ++ (flat_map (λ l. line_deeds t e.names (line_of l)) e.lines.items ++ map Put (stats_line_of stats e.work))
    ≡ played_deeds t stats s.bad (played_from t s) (work_from t s)
closed-deeds t s f e stats is closes =
    let p = played_from t s in
    ap (λ (bad : List BadPlace). map Put (bad_lines bad) ++ (flat_map (λ l. line_deeds t e.names (line_of l)) e.lines.items ++ map Put (stats_line_of stats e.work))) closes.bad
    ∙ ap (λ (names : List (List ℕ)). map Put (bad_lines s.bad) ++ (flat_map (λ l. line_deeds t names (line_of l)) e.lines.items ++ map Put (stats_line_of stats e.work))) (sym closes.names)
    ∙ ap (λ (ds : List Deed). map Put (bad_lines s.bad) ++ (ds ++ map Put (stats_line_of stats e.work)))
    (sym (flat_both (line_deeds t p.state.names) line_of e.lines.items) ∙ ap (flat_map (line_deeds t p.state.names)) (sym closes.lines))
    ∙ ap (λ (ls : List (List ℕ)). map Put (bad_lines s.bad) ++ (flat_map (line_deeds t p.state.names) p.lines ++ map Put ls))
    (stats-same stats e.work (work_from t s) (λ so. let work = closes.work (ap tells_work is ∙ so) in (work.made, work.kept, work.late)))

-- lines that are told are the output of what tells them
pub told-output : {D : Type 0} (t : Tables) (d : Doing) (o : Output D) (ps : List Piece) → o.status ≡ status.Done → o.pieces.items ≡ ps →
    (lines : List (List ℕ)) × (d ≡ Tells (Ok lines)) × (ps ≡ map plain lines) → IsOutput t (Ok o) (out_of_doing t d)
told-output t d o ps done same told =
    subst (λ (e : Doing). IsOutput t (Ok o) (out_of_doing t e)) (sym told.1)
    (sym done, sym (ap (deeds_in t o.names) (same ∙ told.2) ∙ deeds-plain t o.names told.0))

pub ok-map : {X E : Type 0} (P Q : X → Type 0) (r : Result X E) → ((x : X) → P x → Q x) → IfOk r P → IfOk r Q
ok-map P Q (Ok x) f p = f x p
ok-map P Q (Err e) f p = tt

-- ---- lines alone

abbrev pub lines_within : Result (List Piece) Halt → Result (List (List ℕ)) Halt
lines_within (Ok ps) = Ok (map line_in ps)
lines_within (Err h) = Err h

lines-plain : (ls : List (List ℕ)) → map line_in (map plain ls) ≡ ls
lines-plain [] = refl
lines-plain (l ∷ ls) = ap (λ ms. l ∷ ms) (lines-plain ls)

pub within-plain : (given : Result (List (List ℕ)) Halt) → lines_within (all_plain given) ≡ given
within-plain (Ok ls) = ap Ok (lines-plain ls)
within-plain (Err h) = refl

abbrev pieces_or : Result (List Piece) Halt → List Piece
pieces_or (Ok ps) = ps
pieces_or (Err h) = []

abbrev IsGood : {X : Type 0} → Result X Halt → Type 0
IsGood (Ok x) = Unit {0}
IsGood (Err h) = ⊥

-- lines that fit, as pieces
pub plain-fitting : (ls : List (List ℕ)) → fitting_pieces (map plain ls) ≡ all_plain (unless_large ls ls)
plain-fitting ls = ap (λ ms. unless_large ms (map plain ls)) (lines-plain ls) ∙ by_size (is_large ls)
  where
    by_size : (b : Bool) → cond b (Err (halt.TooLarge limit.Text)) (Ok (map plain ls)) ≡ all_plain (cond b (Err (halt.TooLarge limit.Text)) (Ok ls))
    by_size true = refl
    by_size false = refl

-- what is answered of plain lines is plain
pub plain-ok : (given : Result (List (List ℕ)) Halt) (ps : List Piece) → all_plain given ≡ Ok ps → (lines : List (List ℕ)) × (given ≡ Ok lines) × (ps ≡ map plain lines)
plain-ok (Ok lines) ps is = (lines, refl, sym (ap pieces_or is))
plain-ok (Err h) ps is = absurd (subst IsGood (sym is) tt)

pub plain-of : (r : Result (Vec Piece Global) (Refusal Halt)) (given : Result (List (List ℕ)) Halt) → Gives (λ (ps : Vec Piece Global). ps.items) r (all_plain given) →
    IfOk r (λ (ps : Vec Piece Global). ArePlain ps.items)
plain-of (Ok ps) given is = let p = plain-ok given ps.items is in (p.0, p.2)
plain-of (Err e) given is = tt

-- lines that don't fit are no fault of the files
pub plain-fault : (lines : List (List ℕ)) → all_plain (unless_large lines lines) ≡ Err halt.FileFault → ⊥
plain-fault lines is = not-fault lines lines (sym (within-plain (unless_large lines lines)) ∙ ap lines_within is)

-- one error is the other
abbrev error_or : {X E : Type 0} → E → Result X E → E
error_or e (Ok x) = e
error_or e (Err f) = f

pub errors-same : {X E : Type 0} {e f : E} → ◌≡◌ {A = Result X E} (Err e) (Err f) → e ≡ f
errors-same {X} {E} {e} {f} is = ap (error_or {X = X} e) is
