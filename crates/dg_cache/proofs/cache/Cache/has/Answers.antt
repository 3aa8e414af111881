use Rattle.std.proofs.Common.{◌≡◌, ap, ◌∙◌, is_some, Option, Some, None, refl, Bor}
use Rattle.std.specs.Option.{option_copied}
use Rattle.dg_cache.specs.Layout.{entries_from}
use Rattle.dg_cache.proofs.Listing.{value_among}
use Rattle.dg_cache.proofs.Laying.{held, held-among}
use Rattle.dg_cache.proofs.cache.Cache.has.Goals as goal

some_copied : {X : Type 0} (o : Option (Bor X)) → is_some o ≡ is_some (option_copied o)
some_copied None = refl
some_copied (Some x) = refl

pub returns : goal.returns
returns c =
    c.is_some.ensures ∙ some_copied c.get.result ∙ ap is_some c.get.ensures ∙ value_among c.args.at (entries_from c.self.inside.values)
    ∙ held-among (held c.self.invariant.0 c.self.view_is) c.args.at
