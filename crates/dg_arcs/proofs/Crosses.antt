-- Threads may share arcs.
use denote.Param.Send.{IsSend, IsSync, sendable}
use Rattle.std.proofs.Crossing.{crosses}
use Rattle.dg_base.specs.contracts.ids.ArcRec as arc_type
use Rattle.dg_base.specs.contracts.ids.Endpoint as end_type
use Rattle.dg_pmap.proofs.Crosses.{PMap-send, PMap-sync}
use Rattle.dg_arcs.specs.contracts.arcs.Arcs as arcs_type

Endpoint-send : IsSend end_type.the_row
Endpoint-send = search (sendable, crosses) depth 20

Endpoint-sync : IsSync end_type.the_row
Endpoint-sync = search (sendable, crosses) depth 20

ArcRec-send : IsSend arc_type.the_row
ArcRec-send = search (Endpoint-send, sendable, crosses) depth 20

ArcRec-sync : IsSync arc_type.the_row
ArcRec-sync = search (Endpoint-sync, sendable, crosses) depth 20

pub Arcs-send : IsSend arcs_type.the_row
Arcs-send = search (PMap-send, PMap-sync, ArcRec-send, ArcRec-sync, Endpoint-send, Endpoint-sync, sendable, crosses) depth 30

pub Arcs-sync : IsSync arcs_type.the_row
Arcs-sync = search (PMap-send, PMap-sync, ArcRec-send, ArcRec-sync, Endpoint-send, Endpoint-sync, sendable, crosses) depth 30
