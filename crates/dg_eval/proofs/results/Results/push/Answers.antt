use Rattle.std.proofs.Common.{◌≡◌, List, [], ◌∷◌, ◌++◌, false, cond, ap, ◌∙◌, sym, is_some}
use Rattle.std.proofs.lemmas.List.{map-append}
use Rattle.dg_base.specs.declared.ids.Endpoint.{Endpoint}
use Rattle.dg_base.specs.Order.{is_end_among}
use Rattle.dg_cache.specs.declared.entry.Entry.{Entry}
use Rattle.dg_cache.specs.Entries.{ends_of, value_in}
use Rattle.dg_eval.proofs.Entries.{value_in-among}
use Rattle.dg_eval.proofs.results.Results.push.Goals as goal

pub invariant_of-self-2 : goal.invariant_of-self-2
invariant_of-self-2 c =
    let xs = c.self.inside.entries.items in
    let keys = c.self.inside.places.keys in
    let e = c.args.at in
    let away : is_end_among keys e ≡ false =
    ap (λ (es : List Endpoint). is_end_among es e) c.self.invariant ∙ sym (value_in-among xs e)
    ∙ ap is_some (ap (λ (ys : List Entry). value_in ys e) c.self.view_is ∙ c.requires) in
    c.in_ok-insert.ensures.keys
    ∙ ap (λ b. cond b keys (keys ++ e ∷ [])) away
    ∙ ap (λ (es : List Endpoint). es ++ e ∷ []) c.self.invariant
    ∙ sym (ap ends_of (c.push_reserved.ensures.items ∙ ap (λ (ys : List Entry). ys ++ record { at = e; value = c.args.value } ∷ []) c.reserve.ensures.items) ∙ map-append (λ x. x.at) xs (record { at = e; value = c.args.value } ∷ []))
