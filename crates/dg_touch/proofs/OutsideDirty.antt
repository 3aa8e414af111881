-- Values outside of what is dirty.
use Rattle.std.proofs.Common.{◌≡◌, ℕ, zero, suc, ◌+◌, true, false, List, Contains, refl, sym, ap, ◌∙◌, subst, inl, inr, arith, true≢false}
use Rattle.std.proofs.lemmas.Bool.{false_from_ne_true}
use Rattle.dg_base.specs.declared.ids.Endpoint.{Endpoint}
use Rattle.dg_base.specs.declared.rule.Rule.{Rule}
use Rattle.dg_base.specs.Order.{is_end_among}
use Rattle.dg_base.specs.Tables.{Tables, AreTables}
use Rattle.dg_base.specs.Graph.{Graph}
use Rattle.dg_base.specs.Rule.{rule_of, named_by, dependencies, endpoints}
use Rattle.dg_base.specs.Value.{answer_by, value_within, enough_fuel, value_at}
use Rattle.dg_base.specs.Sound.{IsSound, IsLinked}
use Rattle.dg_base.specs.Dirty.{depends_on, dirty}
use Rattle.dg_laws.proofs.Members.{Contains-none, list_any_from}
use Rattle.dg_laws.proofs.Among.{among_from_Contains}
use Rattle.dg_laws.proofs.Ends.{ends_tell}
use Rattle.dg_laws.proofs.Nodes.{IsLinked-from_sound}
use Rattle.dg_laws.proofs.Endpoints.{covers}
use Rattle.dg_laws.proofs.Fuel.{answer_by-same, more_fuel}
use Rattle.dg_laws.proofs.Dirties.{dirty-holds, dirty-closed}
use Rattle.dg_touch.specs.Laws.{RulesAgreeOutside, ValuesAgreeOutside}

module _ {t : Tables} {h : Graph} (laws : AreTables t) (l : IsLinked h) (es : List Endpoint) where
  -- what an endpoint outside depends on is outside
  pub outside-dependencies : (e o : Endpoint) → is_end_among (dirty t h es) e ≡ false → Contains (dependencies t h e) o → is_end_among (dirty t h es) o ≡ false
  outside-dependencies e o out c = false_from_ne_true (is_end_among (dirty t h es) o) (λ inside.
      let d : depends_on t h (dirty t h es) e ≡ true = list_any_from (is_end_among (dirty t h es)) (dependencies t h e) o c inside in
      elim (covers l laws e) [
        | inl among ↦ true≢false (sym (dirty-closed t h es e (among_from_Contains ends_tell (endpoints t h) e among) d) ∙ out)
        | inr absent ↦ Contains-none o (subst (λ (r : Rule). Contains (named_by r) o) absent c)
      ])

  pub outside-touched : (e : Endpoint) → is_end_among (dirty t h es) e ≡ false → is_end_among es e ≡ false
  outside-touched e out = false_from_ne_true (is_end_among es e) (λ inside. true≢false (sym (dirty-holds t h es e inside) ∙ out))

  pub values-within : (g : Graph) → RulesAgreeOutside t g h es → (k : ℕ) (e : Endpoint) → is_end_among (dirty t h es) e ≡ false →
      value_within k t g e ≡ value_within k t h e
  values-within g agree zero e out = refl
  values-within g agree (suc k) e out =
      ap (answer_by t e (value_within k t g)) (agree e (outside-touched e out))
      ∙ answer_by-same t e (value_within k t g) (value_within k t h) (rule_of t h e) (λ o c. values-within g agree k o (outside-dependencies e o out c))

module _ {t : Tables} {g h : Graph} (laws : AreTables t) (s : IsSound t g) (r : IsSound t h) (es : List Endpoint) (agree : RulesAgreeOutside t g h es) where
  pub values-settled : (e : Endpoint) → is_end_among (dirty t h es) e ≡ false → value_at t g e ≡ value_at t h e
  values-settled e out =
      let k = enough_fuel t g + enough_fuel t h in
      sym (more_fuel s laws k (omega arith) e)
      ∙ values-within laws (IsLinked-from_sound r) es g agree k e out
      ∙ more_fuel r laws k (omega arith) e

  pub values-outside : ValuesAgreeOutside t g h (dirty t h es)
  values-outside = record {
    rules = λ e out. agree e (outside-touched laws (IsLinked-from_sound r) es e out);
    within = values-within laws (IsLinked-from_sound r) es g agree;
    settled = values-settled;
  }
