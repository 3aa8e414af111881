-- What a worker does with a job.
use Rattle.std.specs.Prelude.{◌≡◌, ◌≤◌}
use Rattle.dg_asks.specs.Asks.{Answering}
use Rattle.dg_line.specs.Revisions.{Seen}
use Rattle.dg_offer.specs.Offers.{Offered}
use Rattle.dg_room.specs.Made.{Passed}
use Rattle.dg_worker.specs.declared.job.Job.{Job}

-- the ask of a job was evaluated, and nothing else
pub record IsSolved {M : Type 0} (job : Job M Seen) (s : Answering Seen M) : Type 0 where
  pub ask : s.ask ≡ job.ask
  pub ticket : s.ticket ≡ job.asking.ticket
  pub at : s.at ≡ job.asking.at

-- an offer is of the ask of a job
pub record IsOfferOf {M : Type 0} (job : Job M Seen) (o : Offered Seen M) : Type 0 where
  pub ask : o.ask ≡ job.ask
  pub ticket : o.ticket ≡ job.asking.ticket
  pub endpoint : o.endpoint ≡ job.asking.at

-- a pass published at most, and followed and evicted nothing
pub record Publishes (p q : Passed) : Type 0 where
  pub number : q.number ≡ p.number
  pub follows : q.made.follows ≡ p.made.follows
  pub evictions : q.made.evictions ≡ p.made.evictions
  pub publications : p.made.publications ≤ q.made.publications
