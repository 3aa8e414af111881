-- One more token of a text.
use Rattle.std.proofs.Common.{◌≡◌, ℕ, List, [], ◌∷◌, length, drop, zero, suc, refl, sym, ap, subst, ◌∙◌, arith, Option, Some, None, Result, Ok, Err}
use Rattle.dg_ptext.specs.declared.refusal.TextCode.{TextCode}
use Rattle.dg_ptext.specs.declared.state.State.{State}
use Rattle.dg_ptext.specs.declared.token.Token.{Token}
use Rattle.dg_ptext.specs.declared.token.Piece.{Piece}
use Rattle.dg_ptext.specs.declared.tree.Field.{Field}
use Rattle.dg_ptext.specs.Token.{Placed, placed, tokens, piece, line_behind}
use Rattle.dg_base.specs.declared.refusal.Refusal.{Refusal}
use Rattle.dg_base.specs.Refusal.{Gives, and_then}
use Rattle.dg_ptext.specs.Reading.{run, step_by, end}
use Rattle.dg_ptext.proofs.Refusals.{refused_on}

pub tokens-skipped : (skipped line : ℕ) (bs : List ℕ) → tokens skipped line bs ≡ tokens 0 line (drop skipped bs)
unfolding tokens
tokens-skipped zero line bs = refl
tokens-skipped (suc skipped) line [] = refl
tokens-skipped (suc skipped) line (b ∷ bs) = tokens-skipped skipped line bs

tokens-first : (line b : ℕ) (bs : List ℕ)
    → tokens 0 line (b ∷ bs) ≡ placed line (piece b bs).token (tokens (piece b bs).taken (line_behind b line) bs)
unfolding tokens
tokens-first line b bs = refl

pub run-placed : (s : State) (line : ℕ) (t : Option Token) (more : List Placed)
    → run s (placed line t more) ≡ and_then (step_by s line t) (λ u. run u more)
unfolding run
run-placed s line None more = refl
run-placed s line (Some t) more = refl

-- what a text says from a state on, where a piece stands at its front
pub run-piece : (s : State) (line b : ℕ) (bs rest : List ℕ) (found : Piece) → rest ≡ b ∷ bs → found ≡ piece b bs
    → run s (tokens 0 line rest)
    ≡ and_then (step_by s line found.token) (λ u. run u (tokens 0 (line_behind b line) (drop found.taken bs)))
run-piece s line b bs rest found is e =
    rw (is, e)
    (ap (run s) (tokens-first line b bs
    ∙ ap (placed line (piece b bs).token) (tokens-skipped (piece b bs).taken (line_behind b line) bs))
    ∙ run-placed s line (piece b bs).token (tokens 0 (line_behind b line) (drop (piece b bs).taken bs)))

pub run-end : (s : State) (line : ℕ) (rest : List ℕ) → length rest ≡ 0 → run s (tokens 0 line rest) ≡ end s
unfolding run tokens
run-end s line [] none = refl
run-end s line (b ∷ bs) none = absurd (omega (arith, none))

-- a refusal of the piece at the front is that of the whole
pub refused_piece : (e : Refusal TextCode) (s : State) (line b : ℕ) (bs rest : List ℕ) (found : Piece) (whole : Result (List Field) TextCode)
    → rest ≡ b ∷ bs → found ≡ piece b bs → run s (tokens 0 line rest) ≡ whole → Gives {X = State} (λ x. x) (Err e) (step_by s line found.token) → Gives {X = List Field} (λ x. x) (Err e) whole
refused_piece e s line b bs rest found whole is same so h =
    let P : Result (List Field) TextCode → Type 0 = λ r. Gives {X = List Field} (λ x. x) (Err e) r in
    subst P (sym (run-piece s line b bs rest found is same) ∙ so)
    (refused_on e (step_by s line found.token) (λ u. run u (tokens 0 (line_behind b line) (drop found.taken bs))) h)

-- a state behind the piece at the front says what the whole says
pub told_piece : (s t : State) (line next b : ℕ) (bs rest : List ℕ) (found : Piece) (whole : Result (List Field) TextCode)
    → rest ≡ b ∷ bs → found ≡ piece b bs → next ≡ line_behind b line → run s (tokens 0 line rest) ≡ whole → step_by s line found.token ≡ Ok t
    → run t (tokens 0 next (drop found.taken bs)) ≡ whole
told_piece s t line next b bs rest found whole is same here so h =
    rw here (sym (run-piece s line b bs rest found is same
    ∙ ap (λ r. and_then r (λ u. run u (tokens 0 (line_behind b line) (drop found.taken bs)))) h) ∙ so)
