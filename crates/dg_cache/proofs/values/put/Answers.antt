use Rattle.std.proofs.Common.{◌≡◌, ◌∷◌, OnOk, ap, ◌∙◌, subst}
use Rattle.dg_base.specs.Order.{ends_rise}
use Rattle.dg_cache.specs.Entries.{ends_of, in_order, others}
use Rattle.dg_cache.specs.Layout.{entries_from}
use Rattle.dg_cache.proofs.Ends.{rise_once}
use Rattle.dg_cache.proofs.Ordering.{rise-leaving}
use Rattle.dg_cache.proofs.values.put.Goals as goal

pub leave-requires : goal.leave-requires
leave-requires c = rise_once (ends_of (entries_from c.args.values.now)) c.requires

pub insert-requires : goal.insert-requires
insert-requires c = ap (λ z. ends_rise (ends_of z)) c.in_ok-leave.ensures ∙ rise-leaving c.args.gone (entries_from c.args.values.now) c.requires

pub returns : goal.returns
returns c =
    subst (λ z. OnOk c.insert.result (entries_from c.insert.new.values ≡ in_order (c.args.entry ∷ others c.args.entry.at z))) c.in_ok-leave.ensures c.insert.ensures
