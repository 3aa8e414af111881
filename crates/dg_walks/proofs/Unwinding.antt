-- What is left of a walk while some endpoints are open, and what each round of a loop with a stack
-- does to it.
use Rattle.std.proofs.Common.{◌≡◌, ℕ, zero, suc, ◌+◌, Bool, true, false, cond, ◌||◌, List, [], ◌∷◌, ◌++◌, map, fold, length, refl, sym, ap, ◌∙◌, arith, subst, append_assoc, append-nil}
use Rattle.std.proofs.lemmas.Bool.{or_right}
use Rattle.dg_base.specs.declared.ids.Endpoint.{Endpoint}
use Rattle.dg_base.specs.Same.{same_end}
use Rattle.dg_base.specs.Order.{is_end_among}
use Rattle.dg_laws.proofs.Among.{among-last}
use Rattle.dg_laws.proofs.Ends.{ends_tell}
use Rattle.dg_base.specs.Evaluation.{Evaluated, with_hit, with_end, was_met, evaluated_within}

-- an open endpoint, and those after it that aren't taken yet
pub record Open : Type 0 where
  pub at : Endpoint
  pub rest : List Endpoint

abbrev pub way_of : List Open → List Endpoint
way_of fs = map (λ f. f.at) fs

module _ (follow : Endpoint → List Endpoint) (known : List Endpoint) where
  -- what the walk comes to where these are open, the lowest first
  abbrev pub unwound : List Open → ℕ → List Endpoint → Evaluated → Evaluated
  unwound [] k way w = w
  unwound (f ∷ fs) zero way w = w
  unwound (f ∷ fs) (suc k) way w =
      with_end (fold (evaluated_within k follow known (way ++ f.at ∷ [])) (unwound fs k (way ++ f.at ∷ []) w) f.rest) f.at

  -- the fuel below so many frames
  abbrev pub fuel_above : List Open → ℕ → ℕ
  fuel_above [] j = j
  fuel_above (f ∷ fs) j = suc (fuel_above fs j)

  pub fuel_above-is : (fs : List Open) (j : ℕ) → fuel_above fs j ≡ length fs + j
  fuel_above-is [] j = omega arith
  fuel_above-is (f ∷ fs) j = let rest = fuel_above-is fs j in omega (arith, rest)

  -- what changes at the upper end of the stack changes nothing below
  pub lift : (j : ℕ) (way : List Endpoint) (w w' : Evaluated) (fs gs gs' : List Open) →
      unwound gs j (way ++ way_of fs) w ≡ unwound gs' j (way ++ way_of fs) w' →
      unwound (fs ++ gs) (fuel_above fs j) way w ≡ unwound (fs ++ gs') (fuel_above fs j) way w'
  lift j way w w' [] gs gs' h = subst (λ (z : List Endpoint). unwound gs j z w ≡ unwound gs' j z w') (append-nil way) h
  lift j way w w' (f ∷ fs) gs gs' h =
      let same : (way ++ f.at ∷ []) ++ way_of fs ≡ way ++ f.at ∷ way_of fs = append_assoc way (f.at ∷ []) (way_of fs) in
      let above = lift j (way ++ f.at ∷ []) w w' fs gs gs' (subst (λ (z : List Endpoint). unwound gs j z w ≡ unwound gs' j z w') (sym same) h) in
      ap (λ (z : Evaluated). with_end (fold (evaluated_within (fuel_above fs j) follow known (way ++ f.at ∷ [])) z f.rest) f.at) above

  module _ (j : ℕ) (way : List Endpoint) (w : Evaluated) (e d : Endpoint) (ds : List Endpoint) where
    abbrev inner : List Endpoint
    inner = way ++ e ∷ []

    abbrev entered : Evaluated
    entered = with_end (fold (evaluated_within j follow known (inner ++ d ∷ [])) w (follow d)) d

    walk_met : (v : Evaluated) → was_met inner v d ≡ true → evaluated_within (suc j) follow known inner v d ≡ v
    walk_met v h = ap (λ b. cond b v (cond (is_end_among known d) (with_hit v d) (with_end (fold (evaluated_within j follow known (inner ++ d ∷ [])) v (follow d)) d))) h

    -- the next one was met
    pub step_met : was_met (way ++ e ∷ []) w d ≡ true →
        unwound (record { at = e; rest = d ∷ ds } ∷ []) (suc (suc j)) way w ≡ unwound (record { at = e; rest = ds } ∷ []) (suc (suc j)) way w
    step_met h = ap (λ (z : Evaluated). with_end (fold (evaluated_within (suc j) follow known inner) z ds) e) (walk_met w h)

    -- the next one is known
    pub step_hit : was_met (way ++ e ∷ []) w d ≡ false → is_end_among known d ≡ true →
        unwound (record { at = e; rest = d ∷ ds } ∷ []) (suc (suc j)) way w ≡ unwound (record { at = e; rest = ds } ∷ []) (suc (suc j)) way (with_hit w d)
    step_hit new there =
        ap (λ (z : Evaluated). with_end (fold (evaluated_within (suc j) follow known inner) z ds) e) (
        ap (λ b. cond b w (cond (is_end_among known d) (with_hit w d) entered)) new
        ∙ ap (λ b. cond b (with_hit w d) entered) there)

    -- the next one is entered
    pub step_enter : was_met (way ++ e ∷ []) w d ≡ false → is_end_among known d ≡ false →
        unwound (record { at = e; rest = d ∷ ds } ∷ []) (suc (suc j)) way w
        ≡ unwound (record { at = e; rest = d ∷ ds } ∷ record { at = d; rest = follow d } ∷ []) (suc (suc j)) way w
    step_enter new none =
        let first : evaluated_within (suc j) follow known inner w d ≡ entered =
        ap (λ b. cond b w (cond (is_end_among known d) (with_hit w d) entered)) new
        ∙ ap (λ b. cond b (with_hit w d) entered) none
        in
        let listed : was_met inner entered d ≡ true =
        or_right (is_end_among inner d) (is_end_among entered.listed d) (among-last ends_tell (fold (evaluated_within j follow known (inner ++ d ∷ [])) w (follow d)).listed d)
        in
        ap (λ (z : Evaluated). with_end (fold (evaluated_within (suc j) follow known inner) z ds) e) (first ∙ sym (walk_met entered listed))

  -- nothing is left after an open one
  pub step_finish : (j : ℕ) (way : List Endpoint) (w : Evaluated) (e : Endpoint) →
      unwound (record { at = e; rest = [] } ∷ []) (suc j) way w ≡ unwound [] (suc j) way (with_end w e)
  step_finish j way w e = refl
