use Rattle.std.proofs.Common.{◌≡◌, List, [], ◌∷◌, ◌++◌, false, cond, ap, ◌∙◌, sym}
use Rattle.dg_base.specs.declared.ids.Endpoint.{Endpoint}
use Rattle.dg_base.specs.Order.{is_end_among}
use Rattle.dg_eval.proofs.end_set.EndSet.note.Goals as goal

pub invariant_of-self-2 : goal.invariant_of-self-2
invariant_of-self-2 c =
    let keys = c.self.inside.found.keys in
    let e = c.args.at in
    let away : is_end_among keys e ≡ false = ap (λ (es : List Endpoint). is_end_among es e) (c.self.invariant ∙ c.self.view_is) ∙ sym c.has.ensures ∙ c.if-has.false in
    c.in_ok-insert.ensures.keys
    ∙ ap (λ b. cond b keys (keys ++ e ∷ [])) away
    ∙ ap (λ (es : List Endpoint). es ++ e ∷ []) c.self.invariant
    ∙ sym (c.push_reserved.ensures.items ∙ ap (λ (es : List Endpoint). es ++ e ∷ []) c.reserve.ensures.items)
