use denote.Param.Send.{sendable}
use Rattle.dg_cache.proofs.Crosses.{Cache-send, Cache-sync}
use Rattle.dg_cache.proofs.uses.shares_cache.Goals as goal

pub is_shared-requires-send-X : goal.is_shared-requires-send-X
is_shared-requires-send-X c κs = search (Cache-send, sendable)

pub is_shared-requires-sync-X : goal.is_shared-requires-sync-X
is_shared-requires-sync-X c κs = search (Cache-sync, sendable)
