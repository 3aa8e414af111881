-- Threads may share nodes.
use denote.Param.Send.{IsSend, IsSync, sendable}
use Rattle.std.proofs.Crossing.{crosses}
use Rattle.dg_base.proofs.datum.Datum.TheLaws.TheKnot as datum
use Rattle.dg_base.specs.contracts.datum.Datum as datum_type
use Rattle.dg_pmap.proofs.Crosses.{PMap-send, PMap-sync}
use Rattle.dg_basis.specs.contracts.basis.Basis as basis_type
use Rattle.dg_basis.specs.contracts.node_rec.NodeRec as rec_type

Datum-send : IsSend datum_type.the_row
Datum-send = search (sendable, crosses, datum.crosses) depth 20

Datum-sync : IsSync datum_type.the_row
Datum-sync = search (sendable, crosses, datum.crosses) depth 20

pub NodeRec-send : IsSend rec_type.the_row
NodeRec-send = search (PMap-send, PMap-sync, Datum-send, Datum-sync, sendable, crosses) depth 20

pub NodeRec-sync : IsSync rec_type.the_row
NodeRec-sync = search (PMap-send, PMap-sync, Datum-send, Datum-sync, sendable, crosses) depth 20

pub Basis-send : IsSend basis_type.the_row
Basis-send = search (PMap-send, PMap-sync, NodeRec-send, NodeRec-sync, sendable, crosses) depth 20

pub Basis-sync : IsSync basis_type.the_row
Basis-sync = search (PMap-send, PMap-sync, NodeRec-send, NodeRec-sync, sendable, crosses) depth 20
