use Rattle.std.proofs.Common.{rules, ◌≡◌, None, false, List, ap, sym, ◌∙◌, is_some}
use Rattle.std.specs.Option.{option_copied}
use Rattle.dg_base.specs.declared.ids.Endpoint.{Endpoint}
use Rattle.dg_base.specs.Order.{is_end_among}
use Rattle.dg_cache.specs.declared.entry.Entry.{Entry}
use Rattle.dg_cache.specs.Entries.{value_in}
use Rattle.dg_eval.proofs.Places.{place-value}
use Rattle.dg_eval.proofs.Entries.{value_in-among, none_from}
use Rattle.dg_eval.proofs.results.Results.find.Goals as goal

pub returns-in_err-place : goal.returns-in_err-place
returns-in_err-place c =
    let away : is_end_among c.self.inside.places.keys c.args.at ≡ false = sym c.get_index_of.ensures.found ∙ ap is_some c.in_err-place.was in
    let none : value_in c.self.inside.entries.items c.args.at ≡ None =
    none_from _ (value_in-among c.self.inside.entries.items c.args.at ∙ ap (λ (es : List Endpoint). is_end_among es c.args.at) (sym c.self.invariant) ∙ away) in
    let left : option_copied c.from_residual.result ≡ None = search rules in
    left ∙ sym none ∙ ap (λ (xs : List Entry). value_in xs c.args.at) c.self.view_is

pub returns : goal.returns
returns c =
    place-value c.self.inside.entries.items c.args.at c.in_ok-place.place c.index.result.now (search rules) c.index.ensures
    ∙ ap (λ (xs : List Entry). value_in xs c.args.at) c.self.view_is
