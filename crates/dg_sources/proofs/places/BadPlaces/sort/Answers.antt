use Rattle.std.proofs.Common.{rules, ◌∙◌, ap}
use Rattle.std.specs.Cmp.{on_total, then_total, nat_cmp_total}
use Rattle.std.specs.Cmp.Lexicographic.{nat_list_cmp_total}
use Rattle.dg_sources.specs.declared.bad.BadPlace.{BadPlace}
use Rattle.dg_sources.specs.Sorting.{bad_before, bad_cmp, sorted}
use Rattle.dg_sources.proofs.StableSorts.{stable-sorted-by}
use Rattle.dg_sources.proofs.places.BadPlaces.sort.Goals as goal

pub returns : goal.returns
returns c =
    stable-sorted-by bad_cmp (then_total (on_total (λ (b : BadPlace). b.path) nat_list_cmp_total) (on_total (λ (b : BadPlace). b.line) nat_cmp_total))
    c.self.inside.places.items c.sort_by.new.self.items c.in_ok-sort_by.ensures.sorted c.sort_by.ensures.stable (λ a r q k. search rules)
    ∙ ap (sorted bad_before) c.self.view_is
