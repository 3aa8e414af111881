-- Threads may share a desk, where they may share what a mark stands for.
use denote.RattleType.{RattleType}
use denote.Param.Send.{IsSend, IsSync, sendable}
use Rattle.std.proofs.Crossing.{crosses}
use Rattle.dg_base.proofs.datum.Datum.TheLaws.TheKnot as datum
use Rattle.dg_base.specs.declared.schema.Schema as schema
use Rattle.dg_cache.proofs.Crosses.{Cache-send, Cache-sync, Entry-send, Entry-sync}
use Rattle.dg_line.specs.declared.ticket.Mark as mark
use Rattle.dg_line.specs.contracts.counters.Counters as counters_type
use Rattle.dg_line.specs.contracts.revision.Revision as revision_type
use Rattle.dg_line.specs.contracts.ticket.Ticket as ticket_type
use Rattle.dg_line.specs.contracts.link.Link as link_type
use Rattle.dg_offer.specs.contracts.offer.Offer as offer_type
use Rattle.dg_desk.specs.contracts.event.DeskEvent as event_type
use Rattle.dg_desk.specs.contracts.desk.Desk as desk_type
use Rattle.dg_view.specs.contracts.graph.Graph as graph_type

-- the records of tickets, links and offers
module _ (K O T : RattleType) where
  Event-send : IsSend K → IsSend O → IsSend T → IsSend (event_type.the_row K O T)
  Event-send a b c = search (sendable, crosses) depth 30

  Event-sync : IsSync K → IsSync O → IsSync T → IsSync (event_type.the_row K O T)
  Event-sync a b c = search (sendable, crosses) depth 30

module _ (M T : RattleType) (w : mark.Ghosts M.Denot T.Denot) where
  Ticket-send : IsSend M → IsSync M → IsSend T → IsSync T → IsSend (ticket_type.the_row M T w)
  Ticket-send a b c d = search (sendable, crosses) depth 20

  Ticket-sync : IsSend M → IsSync M → IsSend T → IsSync T → IsSync (ticket_type.the_row M T w)
  Ticket-sync a b c d = search (sendable, crosses) depth 20

  Link-send : IsSend M → IsSync M → IsSend T → IsSync T → IsSend (link_type.the_row M T w)
  Link-send a b c d = search (Ticket-send, sendable, crosses) depth 20

  Link-sync : IsSend M → IsSync M → IsSend T → IsSync T → IsSync (link_type.the_row M T w)
  Link-sync a b c d = search (Ticket-sync, sendable, crosses) depth 20

  Offer-send : IsSend M → IsSync M → IsSend T → IsSync T → IsSend (offer_type.the_row M T w)
  Offer-send a b c d = search (Ticket-send, Entry-send, sendable, crosses) depth 20

  Offer-sync : IsSend M → IsSync M → IsSend T → IsSync T → IsSync (offer_type.the_row M T w)
  Offer-sync a b c d = search (Ticket-sync, Entry-sync, sendable, crosses) depth 20

  pub Desk-send : IsSend M → IsSync M → IsSend T → IsSync T → IsSend (desk_type.the_row M T w)
  Desk-send a b c d = search (Ticket-send, Link-send, Offer-send, Event-send, Cache-send, sendable, crosses) depth 30

  pub Desk-sync : IsSend M → IsSync M → IsSend T → IsSync T → IsSync (desk_type.the_row M T w)
  Desk-sync a b c d = search (Ticket-sync, Link-sync, Offer-sync, Event-sync, Cache-sync, sendable, crosses) depth 30

-- ---- what a mark stands for, where that is a revision

Counters-send : IsSend counters_type.the_row
Counters-send = search (sendable, crosses) depth 20

Counters-sync : IsSync counters_type.the_row
Counters-sync = search (sendable, crosses) depth 20

module _ (S : RattleType) (s : schema.Ghosts S.Denot) where
  Graph-send : IsSend S → IsSync S → IsSend (graph_type.the_row S s)
  Graph-send a b = search (sendable, crosses, datum.crosses) depth 40 fits 8000

  Graph-sync : IsSend S → IsSync S → IsSync (graph_type.the_row S s)
  Graph-sync a b = search (sendable, crosses, datum.crosses) depth 40 fits 8000

  pub Revision-send : IsSend S → IsSync S → IsSend (revision_type.the_row S s)
  Revision-send a b = search (Graph-send, Counters-send, sendable) depth 20

  pub Revision-sync : IsSend S → IsSync S → IsSync (revision_type.the_row S s)
  Revision-sync a b = search (Graph-sync, Counters-sync, sendable) depth 20
