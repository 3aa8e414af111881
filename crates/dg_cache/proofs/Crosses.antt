-- Threads may share a cache and its entries.
use denote.Param.Send.{IsSend, IsSync, sendable}
use Rattle.std.proofs.Crossing.{crosses}
use Rattle.dg_base.proofs.datum.Datum.TheLaws.TheKnot as datum
use Rattle.dg_base.specs.contracts.answer.Answer as answer_type
use Rattle.dg_base.specs.contracts.answer.Fault as fault_type
use Rattle.dg_base.specs.contracts.answer.Faults as faults_type
use Rattle.dg_base.specs.contracts.answer.Held as held_type
use Rattle.dg_pmap.proofs.Crosses.{PMap-send, PMap-sync}
use Rattle.lru.proofs.cache.LruCache.TheSendSync as order
use Rattle.dg_cache.specs.contracts.cache.Cache as cache_type
use Rattle.dg_cache.specs.contracts.snapshot.Snapshot as snapshot_type
use Rattle.dg_cache.specs.contracts.entry.Entry as entry_type

Fault-send : IsSend fault_type.the_row
Fault-send = search (sendable, crosses) depth 20

Fault-sync : IsSync fault_type.the_row
Fault-sync = search (sendable, crosses) depth 20

Faults-send : IsSend faults_type.the_row
Faults-send = search (Fault-send, sendable, crosses) depth 20

Faults-sync : IsSync faults_type.the_row
Faults-sync = search (Fault-sync, sendable, crosses) depth 20

Answer-send : IsSend answer_type.the_row
Answer-send = search (Faults-send, sendable, crosses, datum.crosses) depth 40

Answer-sync : IsSync answer_type.the_row
Answer-sync = search (Faults-sync, sendable, crosses, datum.crosses) depth 40

Held-send : IsSend held_type.the_row
Held-send = search (Answer-send, Answer-sync, sendable, crosses) depth 20

Held-sync : IsSync held_type.the_row
Held-sync = search (Answer-send, Answer-sync, sendable, crosses) depth 20

pub Entry-send : IsSend entry_type.the_row
Entry-send = search (Held-send, sendable, crosses) depth 20

pub Entry-sync : IsSync entry_type.the_row
Entry-sync = search (Held-sync, sendable, crosses) depth 20

pub Snapshot-send : IsSend snapshot_type.the_row
Snapshot-send = search (Held-send, Held-sync, PMap-send, sendable, crosses) depth 30

pub Snapshot-sync : IsSync snapshot_type.the_row
Snapshot-sync = search (Held-send, Held-sync, PMap-sync, sendable, crosses) depth 30

pub Cache-send : IsSend cache_type.the_row
Cache-send = search (Held-send, Held-sync, PMap-send, order.the_send, sendable, crosses) depth 30

pub Cache-sync : IsSync cache_type.the_row
Cache-sync = search (Held-send, Held-sync, PMap-sync, order.the_sync, sendable, crosses) depth 30
