-- A pass may go to another thread, and threads may share a pool, where its jobs may go to another thread.
use base.Shift.{Keyless}
use denote.RattleType.{RattleType}
use denote.Param.Send.{IsSend, IsSync, sendable}
use Rattle.std.proofs.Common.{ℕ, zero, suc, List, [], ◌∷◌}
use Rattle.std.proofs.Crossing.{crosses}
use Rattle.std.specs.Sync.Ledger.{book_owns, chain, row, share_owns, Rule}
use Rattle.std.specs.contracts.sync.ledger.Book as book_type
use Rattle.std.specs.contracts.sync.ledger.Share as share_type
use Rattle.std.specs.declared.sync.ledger.Ledger as ledger
use Rattle.dg_pool.specs.declared.checks.Check as check
use Rattle.dg_pool.specs.declared.checks.Test as test
use Rattle.dg_pool.specs.declared.names.PoolName as pool_name
use Rattle.dg_pool.specs.contracts.books.Books as books_type
use Rattle.dg_pool.specs.contracts.counted.Counted as counted_type
use Rattle.dg_pool.specs.contracts.pass.PoolPass as pass_type
use Rattle.dg_pool.specs.contracts.pool.Pool as pool_type
use Rattle.dg_pool.specs.contracts.queue.Queue as queue_type
use Rattle.dg_pool.specs.contracts.shares.Shares as shares_type

-- ---- a ledger's book and shares name no thread

chain-keyless : (xs : List (ℕ × ℕ)) (at : ℕ) → Keyless (chain xs at)
chain-keyless [] at = (tt, tt)
chain-keyless (x ∷ xs) at = λ c. (tt, (tt, (tt, chain-keyless xs c.1)))

row-keyless : (i : ℕ) (x : ℕ × ℕ) (at : ℕ) → Keyless (row i x at)
row-keyless zero x at = λ c. (tt, tt)
row-keyless (suc i) x at = λ c. (tt, row-keyless i x c.1)

rule-keyless : (at parts : ℕ) → Keyless (Rule at parts)
rule-keyless at parts = λ s. (chain-keyless ((0, s.0) ∷ s.1) at, λ _. tt)

book-keyless : (at parts total : ℕ) → Keyless (book_owns at parts total)
unfolding book_owns
book-keyless at parts total = (rule-keyless at parts, row-keyless 0 (0, total) at)

share-keyless : (at parts held amount : ℕ) → Keyless (share_owns at parts held amount)
unfolding share_owns
share-keyless at parts held amount = (rule-keyless at parts, λ i. row-keyless (suc i) (held, amount) at)

module _ (L : RattleType) (g : ledger.Ghosts L.Denot) where
  Book-send : IsSend (book_type.the_row L g)
  Book-send = record { owned = λ d vs. ((λ vss. (tt, ((λ uss. (tt, tt)), tt))), book-keyless g.name g.parts d.total); leaving = λ k f vs. tt }

  Share-send : IsSend (share_type.the_row L g)
  Share-send = record { owned = λ d vs. ((λ vss. (tt, ((λ uss. (tt, tt)), tt))), share-keyless g.name g.parts d.parts d.amount); leaving = λ k f vs. tt }

-- ---- passes, and what lies under the lock

module _ (N : RattleType) (n : pool_name.Ghosts N.Denot) where
  Books-send : IsSend (books_type.the_row N n)
  Books-send = search (Book-send, sendable, crosses) depth 20

  Shares-send : IsSend (shares_type.the_row N n)
  Shares-send = search (Share-send, sendable, crosses) depth 20

  pub PoolPass-send : IsSend (pass_type.the_row N n)
  PoolPass-send = search (Shares-send, sendable) depth 20

module _ (J : RattleType) where
  Queue-send : IsSend J → IsSend (queue_type.the_row J)
  Queue-send a = search (sendable, crosses) depth 20

module _ (J N T C : RattleType) (n : pool_name.Ghosts N.Denot) (t : test.Ghosts T.Denot J.Denot) (c : check.Ghosts C.Denot J.Denot) where
  Counted-send : IsSend J → IsSend C → IsSend (counted_type.the_row J N T C t c n)
  Counted-send a b = search (Queue-send, Books-send, Shares-send, sendable, crosses) depth 20

  pub Pool-sync : IsSend J → IsSend C → IsSync (pool_type.the_row J N T C t c n)
  Pool-sync a b = search (Counted-send, sendable, crosses) depth 20

-- what a search needs for a pass, and for a pool that threads share
pub ruleset crosses_pools = (PoolPass-send, Pool-sync)
