use Rattle.std.proofs.Common.{◌∷◌, cond, filter, sym, ap, ◌∙◌}
use Rattle.std.specs.Map.{keys_of}
use Rattle.dg_base.specs.Order.{is_end_among}
use Rattle.dg_cache.specs.Entries.{ends_once}
use Rattle.dg_cache.specs.Layout.{ends_by_use}
use Rattle.dg_cache.proofs.Ends.{outside_one}
use Rattle.dg_cache.proofs.ByUse.{found-among, keys-promoted}
use Rattle.dg_cache.proofs.recent.touch.Goals as goal

pub returns-in-Some-clause-there : goal.returns-in-Some-clause-there
returns-in-Some-clause-there c =
    c.promote.ensures.value ∙ found-among c.args.at c.in-Some.order.entries ∙ ap (λ z. is_end_among (ends_by_use z) c.args.at) (sym c.in-Some.is)

pub returns-in-Some-clause-ends : goal.returns-in-Some-clause-ends
returns-in-Some-clause-ends c =
    ap (λ o. keys_of o.entries) c.promote.ensures.entries
    ∙ keys-promoted c.args.at c.in-Some.order.entries (ap (λ z. ends_once (ends_by_use z)) (sym c.in-Some.is) ∙ c.requires)
    ∙ ap (λ z. cond (is_end_among (ends_by_use z) c.args.at) (c.args.at ∷ filter (outside_one c.args.at) (ends_by_use z)) (ends_by_use z)) (sym c.in-Some.is)
