-- Rules that agree outside of some endpoints, from one graph to another.
use Rattle.std.proofs.Common.{◌≡◌, false, List, ◌++◌, Contains, refl, sym, ◌∙◌, true≢false}
use Rattle.std.proofs.lemmas.Bool.{or_parts}
use Rattle.dg_base.specs.declared.ids.Endpoint.{Endpoint}
use Rattle.dg_base.specs.Order.{is_end_among}
use Rattle.dg_base.specs.Tables.{Tables}
use Rattle.dg_base.specs.Graph.{Graph}
use Rattle.dg_laws.proofs.Among.{among_from_Contains, among-append}
use Rattle.dg_laws.proofs.Ends.{ends_tell}
use Rattle.dg_touch.specs.Laws.{RulesAgreeOutside}

-- what is outside isn't among
pub not_outside : {P : Type 0} (es : List Endpoint) (e : Endpoint) → is_end_among es e ≡ false → Contains es e → P
not_outside es e out c = absurd (true≢false (sym (among_from_Contains ends_tell es e c) ∙ out))

module _ (t : Tables) where
  pub rules-back : (g h : Graph) (es : List Endpoint) → RulesAgreeOutside t g h es → RulesAgreeOutside t h g es
  rules-back g h es agree e out = sym (agree e out)

  -- one change after another
  pub rules-then : (g h k : Graph) (as_ bs : List Endpoint) → RulesAgreeOutside t g h as_ → RulesAgreeOutside t h k bs →
      RulesAgreeOutside t g k (as_ ++ bs)
  rules-then g h k as_ bs first second e out =
      let parts = or_parts (is_end_among as_ e) (is_end_among bs e) (sym (among-append ends_tell as_ bs e) ∙ out) in
      first e parts.0 ∙ second e parts.1

  pub rules-more : (g h : Graph) (as_ bs : List Endpoint) → RulesAgreeOutside t g h as_ → RulesAgreeOutside t g h (as_ ++ bs)
  rules-more g h as_ bs first = rules-then g h h as_ bs first (λ e out. refl)
