use Rattle.std.proofs.Common.{◌≢◌, AllPairs, string_bytes, subst}
use Rattle.dg_base.proofs.NameLists.{once_map}
use Rattle.dg_base.proofs.names.Names.count.Goals as goal

pub returns-clause-once : goal.returns-clause-once
returns-clause-once c = subst (AllPairs (λ a b. a ≢ b)) c.self.view_is (once_map string_bytes _ c.len.ensures.unique)
