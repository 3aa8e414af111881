-- Threads may share a map where they may share its keys and its values.
use denote.RattleType.{RattleType}
use denote.Param.Send.{IsSend, IsSync, sendable}
use Rattle.std.specs.declared.cmp.Ord as ord
use Rattle.std.specs.declared.cmp.PartialEq as eq
use Rattle.std.specs.declared.cmp.PartialOrd as partial
use Rattle.std.proofs.Crossing.{crosses}
use Rattle.dg_pmap.proofs.tree.Tree.TheLaws.TheKnot as knot
use Rattle.dg_pmap.specs.contracts.map.PMap as map_type

module _ (K V : RattleType) (o : ord.Ghosts K.Denot) (e : eq.Ghosts K.Denot) (p : partial.Ghosts K.Denot) where
  pub PMap-send : IsSend K → IsSync K → IsSend V → IsSync V → IsSend (map_type.the_row K V o e p)
  PMap-send a b c d = search (sendable, crosses, knot.crosses) depth 20

  pub PMap-sync : IsSend K → IsSync K → IsSend V → IsSync V → IsSync (map_type.the_row K V o e p)
  PMap-sync a b c d = search (sendable, crosses, knot.crosses) depth 20
