-- The pins of a world stay live.
use Rattle.std.proofs.Common.{◌≡◌, ℕ, zero, suc, List, [], ◌∷◌, ◌++◌, Option, None, length, set, refl, sym, ap, ◌∙◌, inl, inr}
use Rattle.std.proofs.lemmas.Bool.{cases_eq}
use Rattle.dg_world.specs.Worlds.{pin_at}
use Rattle.dg_alone.specs.Works.{SameLive}

-- ---- pins of a world

pub same-live : {P : Type 0} (before now : List (Option P)) → now ≡ before → SameLive before now
same-live before now same n = ap (λ l. pin_at l n) same

pub at-past : {P : Type 0} (ps : List (Option P)) → pin_at ps (length ps) ≡ None
at-past [] = refl
at-past (y ∷ ys) = at-past ys

-- a new pin is live under its number, and changes no other one
pub at-push : {P : Type 0} (ps : List (Option P)) (p : Option P) → pin_at (ps ++ p ∷ []) (length ps) ≡ p
at-push [] p = refl
at-push (y ∷ ys) p = at-push ys p

pub at-push-other : {P : Type 0} (ps : List (Option P)) (x : Option P) (n : ℕ) → (n ≡ length ps → ⊥) → pin_at (ps ++ x ∷ []) n ≡ pin_at ps n
at-push-other [] x zero other = absurd (other refl)
at-push-other [] x (suc n) other = refl
at-push-other (y ∷ ys) x zero other = refl
at-push-other (y ∷ ys) x (suc n) other = at-push-other ys x n (λ e. other (ap suc e))

-- a pin that is dropped is live no more, and takes no other one with it
pub at-set : {P : Type 0} (ps : List (Option P)) (k : ℕ) → pin_at (set ps k None) k ≡ None
at-set [] k = refl
at-set (y ∷ ys) zero = refl
at-set (y ∷ ys) (suc k) = at-set ys k

pub at-set-other : {P : Type 0} (ps : List (Option P)) (k n : ℕ) → (n ≡ k → ⊥) → pin_at (set ps k None) n ≡ pin_at ps n
at-set-other [] k n other = refl
at-set-other (y ∷ ys) zero zero other = absurd (other refl)
at-set-other (y ∷ ys) zero (suc n) other = refl
at-set-other (y ∷ ys) (suc k) zero other = refl
at-set-other (y ∷ ys) (suc k) (suc n) other = at-set-other ys k n (λ e. other (ap suc e))

-- a pin that is made and dropped again leaves the others
pub same-after : {P : Type 0} (before made used now : List (Option P)) (p : Option P) (k : ℕ) → k ≡ length before → made ≡ before ++ p ∷ [] → SameLive made used → now ≡ set used k None → SameLive before now
same-after {P} before made used now p k number push same drop n = elim (cases_eq n k) [
  | inl is ↦
      ap (λ l. pin_at l n) drop ∙ ap (pin_at (set used k None)) is ∙ at-set used k
      ∙ sym (ap (pin_at before) (is ∙ number) ∙ at-past before)
  | inr other ↦
      ap (λ l. pin_at l n) drop ∙ at-set-other used k n other ∙ same n ∙ ap (λ l. pin_at l n) push
      ∙ at-push-other before p n (λ e. other (e ∙ sym number))
]
