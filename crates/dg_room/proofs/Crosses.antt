-- What lies under a room's lock may go to another thread, where that may which the marks of its line stand for.
use base.Shift.{Keyless}
use denote.RattleType.{RattleType}
use denote.Param.Send.{IsSend, IsSync, sendable}
use Rattle.std.proofs.Common.{ℕ, zero, suc, List, [], ◌∷◌}
use Rattle.std.proofs.Crossing.{crosses}
use Rattle.std.specs.Sync.Ledger.{book_owns, chain, row, share_owns, Rule}
use Rattle.std.specs.contracts.sync.ledger.Book as book_type
use Rattle.std.specs.contracts.sync.ledger.Share as share_type
use Rattle.std.specs.declared.sync.ledger.Ledger as ledger
use Rattle.boxcar.proofs.Sent as sent
use Rattle.boxcar.specs.contracts.slot.OnceSlot as slot_type
use Rattle.boxcar.specs.declared.slot.SlotRule as slot_rule
use Rattle.dg_desk.proofs.Crosses.{Desk-send, Revision-send, Revision-sync}
use Rattle.dg_line.specs.contracts.rows.Rows as rows_type
use Rattle.dg_line.specs.contracts.shared_line.SharedLine as shared_line_type
use Rattle.dg_line.specs.contracts.shown.Shown as shown_type
use Rattle.dg_line.specs.declared.rows.LineName as line_name
use Rattle.dg_line.specs.declared.ticket.Mark as mark
use Rattle.dg_room.specs.declared.names.RoomName as room_name
use Rattle.dg_room.specs.contracts.books.Books as books_type
use Rattle.dg_room.specs.contracts.locked.Locked as locked_type
use Rattle.dg_room.specs.contracts.pass.Pass as pass_type
use Rattle.dg_room.specs.contracts.room.Room as room_type
use Rattle.dg_room.specs.contracts.shares.Shares as shares_type

-- ---- a ledger's book and shares name no thread

chain-keyless : (xs : List (ℕ × ℕ)) (at : ℕ) → Keyless (chain xs at)
chain-keyless [] at = (tt, tt)
chain-keyless (x ∷ xs) at = λ c. (tt, (tt, (tt, chain-keyless xs c.1)))

row-keyless : (i : ℕ) (x : ℕ × ℕ) (at : ℕ) → Keyless (row i x at)
row-keyless zero x at = λ c. (tt, tt)
row-keyless (suc i) x at = λ c. (tt, row-keyless i x c.1)

rule-keyless : (at parts : ℕ) → Keyless (Rule at parts)
rule-keyless at parts = λ s. (chain-keyless ((0, s.0) ∷ s.1) at, λ _. tt)

book-keyless : (at parts total : ℕ) → Keyless (book_owns at parts total)
unfolding book_owns
book-keyless at parts total = (rule-keyless at parts, row-keyless 0 (0, total) at)

share-keyless : (at parts held amount : ℕ) → Keyless (share_owns at parts held amount)
unfolding share_owns
share-keyless at parts held amount = (rule-keyless at parts, λ i. row-keyless (suc i) (held, amount) at)

module _ (L : RattleType) (g : ledger.Ghosts L.Denot) where
  Book-send : IsSend (book_type.the_row L g)
  Book-send = record { owned = λ d vs. ((λ vss. (tt, ((λ uss. (tt, tt)), tt))), book-keyless g.name g.parts d.total); leaving = λ k f vs. tt }

  Share-send : IsSend (share_type.the_row L g)
  Share-send = record { owned = λ d vs. ((λ vss. (tt, ((λ uss. (tt, tt)), tt))), share-keyless g.name g.parts d.parts d.amount); leaving = λ k f vs. tt }

-- ---- what lies under the lock

module _ (K : RattleType) (n : room_name.Ghosts K.Denot) where
  Books-send : IsSend (books_type.the_row K n)
  Books-send = search (Book-send, sendable, crosses) depth 20

  Shares-send : IsSend (shares_type.the_row K n)
  Shares-send = search (Share-send, sendable, crosses) depth 20

module _ (M T K : RattleType) (w : mark.Ghosts M.Denot T.Denot) (n : room_name.Ghosts K.Denot) where
  pub Locked-send : IsSend M → IsSync M → IsSend T → IsSync T → IsSend (locked_type.the_row M K T w n)
  Locked-send a b c d = search (Desk-send, Books-send, Shares-send, sendable, crosses) depth 30

module _ (K : RattleType) (n : room_name.Ghosts K.Denot) where
  pub Pass-send : IsSend (pass_type.the_row K n)
  Pass-send = search (Shares-send, sendable) depth 20

module _ (D N : RattleType) where
  pub Room-send : IsSend D → IsSend N → IsSend (room_type.the_row D N)
  Room-send a b = search (sendable, crosses) depth 20

  pub Room-sync : IsSend D → IsSync N → IsSync (room_type.the_row D N)
  Room-sync a b = search (sendable, crosses) depth 20

-- ---- the line

module _ (T Y : RattleType) (g : slot_rule.Ghosts Y.Denot T.Denot) where
  Slot-send : IsSend T → IsSend (slot_type.the_row T Y g)
  Slot-send = sent.slot_send T Y g.holds

  Slot-sync : IsSend T → IsSync T → IsSync (slot_type.the_row T Y g)
  Slot-sync = sent.slot_sync T Y g.holds

module _ (T : RattleType) where
  Rows-send : IsSend T → IsSync T → IsSend (rows_type.the_row T)
  Rows-send a b = search (Slot-send, Slot-sync, sent.tag_send, sent.tag_sync, sendable, crosses) depth 40

  Rows-sync : IsSend T → IsSync T → IsSync (rows_type.the_row T)
  Rows-sync a b = search (Slot-send, Slot-sync, sent.tag_send, sent.tag_sync, sendable, crosses) depth 40

module _ (T J : RattleType) (j : line_name.Ghosts J.Denot) where
  pub Shown-send : IsSend T → IsSync T → IsSend J → IsSync J → IsSend (shown_type.the_row T J j)
  Shown-send a b c d = search (sent.written_send, sendable, crosses) depth 40

  pub Shown-sync : IsSend T → IsSync T → IsSend J → IsSync J → IsSync (shown_type.the_row T J j)
  Shown-sync a b c d = search (sent.written_sync, sendable, crosses) depth 40

module _ (T J R : RattleType) (j : line_name.Ghosts J.Denot) where
  pub SharedLine-send : IsSend T → IsSync T → IsSend J → IsSync J → IsSend R → IsSync R → IsSend (shared_line_type.the_row T J R j)
  SharedLine-send a b c d e f = search (Rows-send, sendable, crosses) depth 40

  pub SharedLine-sync : IsSend T → IsSync T → IsSend J → IsSync J → IsSend R → IsSync R → IsSync (shared_line_type.the_row T J R j)
  SharedLine-sync a b c d e f = search (Rows-sync, sendable, crosses) depth 40

-- what a search needs for a room whose line threads share, and for a pass
pub ruleset crosses_rooms = (Room-send, Room-sync, Locked-send, Pass-send, SharedLine-send, SharedLine-sync, Shown-send, Shown-sync, Revision-send, Revision-sync)
