-- One more pin.
use Rattle.std.proofs.Common.{◌≡◌, ℕ, zero, suc, ◌==◌, Bool, true, false, List, [], ◌∷◌, ◌++◌, Option, Some, cond, length, refl, sym, ap, ◌∙◌, arith}
use Rattle.std.specs.Option.{option_map}
use Rattle.std.proofs.lemmas.Bool.Decides.{nat_tests}
use Rattle.dg_editor.specs.Seeing.{Editing, state_of}
use Rattle.dg_line.specs.Revisions.{Seen}
use Rattle.dg_line.specs.Tickets.{Pin}
use Rattle.dg_play.specs.Sessions.{live_with, with_live}
use Rattle.dg_world.specs.Worlds.{pin_at}
use Rattle.dg_caller.specs.Calls.{live_in, view_of}

at-push : {P : Type 0} (ps : List (Option P)) (p : Option P) → pin_at (ps ++ p ∷ []) (length ps) ≡ p
at-push [] p = refl
at-push (y ∷ ys) p = at-push ys p

at-push-other : {P : Type 0} (ps : List (Option P)) (x : Option P) (n : ℕ) → (n ≡ length ps → ⊥) → pin_at (ps ++ x ∷ []) n ≡ pin_at ps n
at-push-other [] x zero other = absurd (other refl)
at-push-other [] x (suc n) other = refl
at-push-other (y ∷ ys) x zero other = refl
at-push-other (y ∷ ys) x (suc n) other = at-push-other ys x n (λ e. other (ap suc e))

equal-from : (a b : ℕ) → (a == b) ≡ true → a ≡ b
equal-from a b h = grind (arith, nat_tests)

other-from : (a b : ℕ) → (a == b) ≡ false → a ≡ b → ⊥
other-from a b h e = grind (arith, nat_tests)

-- a new pin is live under its number, and changes no other one
live-push : {M : Type 0} (ps : List (Option (Pin Seen M))) (p : Pin Seen M) (m : ℕ) → live_in (ps ++ Some p ∷ []) m ≡ cond (m == length ps) (Some p.revision) (live_in ps m)
live-push {M} ps p m = by_case (m == length ps) refl
  where
    tested : (b : Bool) → (m == length ps) ≡ b → cond b (Some p.revision) (live_in ps m) ≡ cond (m == length ps) (Some p.revision) (live_in ps m)
    tested b h = ap (λ x. cond x (Some p.revision) (live_in ps m)) (sym h)

    by_case : (b : Bool) → (m == length ps) ≡ b → live_in (ps ++ Some p ∷ []) m ≡ cond (m == length ps) (Some p.revision) (live_in ps m)
    by_case true h =
        ap (live_in (ps ++ Some p ∷ [])) (equal-from m (length ps) h) ∙ ap (option_map (λ (q : Pin Seen M). q.revision)) (at-push ps (Some p)) ∙ tested true h
    by_case false h = ap (option_map (λ (q : Pin Seen M). q.revision)) (at-push-other ps (Some p) m (other-from m (length ps) h)) ∙ tested false h

-- one at the current revision
pub view-push : {N M : Type 0} (e : Editing N M) (ps qs : List (Option (Pin Seen M))) (t : Pin Seen M) (n : ℕ) → qs ≡ ps ++ Some t ∷ [] → t ≡ e.here → n ≡ length ps
    → view_of e qs ≡ with_live (view_of e ps) n
view-push e ps qs t n push here number = λ i. record { editor = state_of e; live = λ m. live m i }
  where
    live : (m : ℕ) → live_in qs m ≡ live_with (view_of e ps) n m
    live m = ap (λ l. live_in l m) push ∙ live-push ps t m ∙ (λ i. cond (m == sym number i) (Some (here i).revision) (live_in ps m))
