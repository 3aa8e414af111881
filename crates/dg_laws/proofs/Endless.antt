-- Endpoints of which each depends on another of them are cycles.
use Rattle.std.proofs.Common.{◌≡◌, ◌⊎◌, ℕ, zero, suc, List, [], ◌∷◌, ◌++◌, Contains, refl, sym, ap, ◌∙◌, subst, inl, inr, true≢false}
use Rattle.std.proofs.lemmas.Bool.{cases_Bool}
use Rattle.dg_base.specs.declared.ids.Endpoint.{Endpoint}
use Rattle.dg_base.specs.declared.answer.Answer.TheVariants as answer
use Rattle.dg_base.specs.Tables.{Tables}
use Rattle.dg_base.specs.Graph.{Graph}
use Rattle.dg_base.specs.Rule.{rule_of, dependencies}
use Rattle.dg_base.specs.Value.{is_cycle, value_within, value_at, enough_fuel}
use Rattle.dg_base.specs.Laws.{Leads, directly, onwards}
use Rattle.dg_laws.proofs.Members.{Contains-head, Contains-tail, Contains-cases, Contains-none}
use Rattle.dg_laws.proofs.Fuel.{is_cycle-is, named_settled}

-- an endpoint with a dependency that is a cycle is one
pub cycle_above : (k : ℕ) (t : Tables) (g : Graph) (e o : Endpoint) → Contains (dependencies t g e) o → value_within k t g o ≡ answer.Cycle →
    value_within (suc k) t g e ≡ answer.Cycle
cycle_above k t g e o c is =
    elim (cases_Bool (is_cycle (value_within (suc k) t g e))) [
      | inl cyclic ↦ is_cycle-is (value_within (suc k) t g e) cyclic
      | inr settled ↦ absurd (true≢false (sym (ap is_cycle is) ∙ named_settled t e (value_within k t g) (rule_of t g e) settled o c))
    ]

-- each of these is followed by another of them
abbrev pub IsEndless : (Endpoint → List Endpoint) → List Endpoint → Type 0
IsEndless follow es = (e : Endpoint) → Contains es e → (o : Endpoint) × Contains es o × Contains (follow e) o

pub endless : (t : Tables) (g : Graph) (es : List Endpoint) → IsEndless (dependencies t g) es → (k : ℕ) (e : Endpoint) → Contains es e → value_within k t g e ≡ answer.Cycle
endless t g es h zero e c = refl
endless t g es h (suc k) e c =
    let o = h e c in
    cycle_above k t g e o.0 o.2 (endless t g es h k o.0 o.1)

-- ---- what leads to itself

module _ (t : Tables) (g : Graph) where
  -- each on the way from an endpoint to itself is a cycle, at every fuel
  cycle-round : (k : ℕ) (e o : Endpoint) → Leads t g e o → Leads t g o o → value_within k t g e ≡ answer.Cycle
  cycle-round zero e o l round = refl
  cycle-round (suc k) _ _ (directly e o c) round = cycle_above k t g e o c (cycle-round k o o round round)
  cycle-round (suc k) _ _ (onwards e m o c l) round = cycle_above k t g e m c (cycle-round k m o l round)

  pub leads_round-cycle : (e o : Endpoint) → Leads t g e o → Leads t g o o → value_at t g e ≡ answer.Cycle
  leads_round-cycle e o l round = cycle-round (enough_fuel t g) e o l round

-- ---- ways

-- each is followed by the next
abbrev pub IsWay : (Endpoint → List Endpoint) → List Endpoint → Type 0
IsWay follow [] = Unit {0}
IsWay follow (e ∷ []) = Unit {0}
IsWay follow (e ∷ o ∷ es) = Contains (follow e) o × IsWay follow (o ∷ es)

module _ (follow : Endpoint → List Endpoint) where
  way-rest : (e : Endpoint) (es : List Endpoint) → IsWay follow (e ∷ es) → IsWay follow es
  way-rest e [] w = tt
  way-rest e (o ∷ es) w = w.1

  -- each but the last has one that follows it among the later ones
  pub way-next : (es : List Endpoint) (d : Endpoint) → IsWay follow (es ++ d ∷ []) → (e : Endpoint) → Contains es e →
      (o : Endpoint) × ((o ≡ d) ⊎ Contains es o) × Contains (follow e) o
  way-next [] d w e c = Contains-none e c
  way-next (x ∷ []) d w e c =
      elim (Contains-cases x [] e c) [
        | inl is ↦ (d, inl refl, subst (λ (z : Endpoint). Contains (follow z) d) is w.0)
        | inr none ↦ Contains-none e none
      ]
  way-next (x ∷ y ∷ es) d w e c =
      elim (Contains-cases x (y ∷ es) e c) [
        | inl is ↦ (y, inr (Contains-tail x (y ∷ es) y (Contains-head y es)), subst (λ (z : Endpoint). Contains (follow z) y) is w.0)
        | inr later ↦
            let r = way-next (y ∷ es) d w.1 e later in
            (r.0, later_too r.0 d r.1, r.2)
      ]
    where
      later_too : (o d : Endpoint) → (o ≡ d) ⊎ Contains (y ∷ es) o → (o ≡ d) ⊎ Contains (x ∷ y ∷ es) o
      later_too o d (inl is) = inl is
      later_too o d (inr c) = inr (Contains-tail x (y ∷ es) o c)

  -- a way that comes back to its beginning is endless
  way-endless : (e : Endpoint) (es : List Endpoint) → IsWay follow ((e ∷ es) ++ e ∷ []) → IsEndless follow (e ∷ es)
  way-endless e es w o c =
      let r = way-next (e ∷ es) e w o c in
      (r.0, among r.0 r.1, r.2)
    where
      among : (o : Endpoint) → (o ≡ e) ⊎ Contains (e ∷ es) o → Contains (e ∷ es) o
      among o (inl is) = subst (λ (z : Endpoint). Contains (e ∷ es) z) (sym is) (Contains-head e es)
      among o (inr c) = c

-- where a way comes back to one of its endpoints, that one is a cycle
pub open_is_cycle : (t : Tables) (g : Graph) (way : List Endpoint) (d : Endpoint) → IsWay (dependencies t g) (way ++ d ∷ []) → Contains way d → value_at t g d ≡ answer.Cycle
open_is_cycle t g [] d w c = Contains-none d c
open_is_cycle t g (e ∷ es) d w c =
    elim (Contains-cases e es d c) [
      | inl is ↦
          endless t g (e ∷ es) (way-endless (dependencies t g) e es (subst (λ (z : Endpoint). IsWay (dependencies t g) ((e ∷ es) ++ z ∷ [])) (sym is) w)) (enough_fuel t g) d
          (subst (λ (z : Endpoint). Contains (e ∷ es) z) is (Contains-head e es))
      | inr later ↦ open_is_cycle t g es d (way-rest (dependencies t g) e (es ++ d ∷ []) w) later
    ]
