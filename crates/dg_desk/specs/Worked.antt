-- A desk that goes along three revisions of a graph of sums, and one that is given a link from elsewhere.
use Rattle.std.specs.Prelude.{ℕ, List, [], ◌∷◌, ◌++◌, Some}
use Rattle.dg_base.specs.First.{value, total, first_tables}
use Rattle.dg_base.specs.Value.{value_at}
use Rattle.dg_base.specs.Worked.{at}
use Rattle.dg_cache.specs.declared.entry.Entry.{Entry}
use Rattle.dg_cache.specs.declared.cache.EvictEnd.TheVariants as evict_end
use Rattle.dg_line.specs.Revisions.{Seen}
use Rattle.dg_line.specs.Tickets.{Pin}
use Rattle.dg_line.specs.Links.{Linked}
use Rattle.dg_line.specs.Worked.{begun, first_set, other_set}
use Rattle.dg_offer.specs.Offers.{Offered}
use Rattle.dg_desk.specs.declared.event.What.TheVariants as what
use Rattle.dg_desk.specs.declared.event.Followed.TheVariants as followed
use Rattle.dg_desk.specs.declared.event.Published.{Published}
use Rattle.dg_desk.specs.declared.event.PublishEnd.TheVariants as end_of
use Rattle.dg_desk.specs.Machine.{Act, Event, State, after_all, at_start}
use Rattle.dg_desk.specs.Desks.{IsPlay}

abbrev pub pinned : Seen → Pin Seen (Unit {0})
pinned r = record { revision = r; index = r.number; mark = tt }

-- the number that all sums read is set, and then the one that the last sum alone reads
abbrev pub to_first : Linked Seen (Unit {0})
to_first = record { from = pinned begun; to = pinned first_set; dirty = at 1 value ∷ at 2 total ∷ at 3 total ∷ at 4 total ∷ [] }

abbrev pub to_other : Linked Seen (Unit {0})
to_other = record { from = pinned first_set; to = pinned other_set; dirty = at 4 total ∷ at 5 value ∷ [] }

-- what the evaluation of the last sum in revision 1 found
abbrev pub total_in : Seen → ℕ → Entry
total_in r n = record { at = at n total; value = value_at first_tables r.graph (at n total) }

abbrev pub early : Offered Seen (Unit {0})
early = record {
  ask = 0;
  ticket = pinned first_set;
  endpoint = at 4 total;
  entries = total_in first_set 2 ∷ total_in first_set 3 ∷ total_in first_set 4 ∷ [];
  hits = [];
}

abbrev pub event : ℕ → Act Seen (Unit {0}) → Event Seen (Unit {0})
event n w = record { pass = 0; nth = n; what = w }

-- the desk follows both links, takes the offer of the revision before, and evicts one entry
abbrev pub followed_twice : List (Event Seen (Unit {0}))
followed_twice = event 0 (what.Follow to_first followed.Kept) ∷ event 1 (what.Follow to_other followed.Kept) ∷ []

abbrev pub published_late : Published
published_late = record { place = Some 2; kept = 2; late = 1; done = 2; end = end_of.All }

abbrev pub published : List (Event Seen (Unit {0}))
published = followed_twice ++ event 2 (what.Publish early published_late) ∷ []

abbrev pub evicted_one : List (Event Seen (Unit {0}))
evicted_one = published ++ event 3 (what.Evict 1 (record { gone = 1; end = evict_end.All })) ∷ []

-- a desk at revision 0 is given the second link, and then the same offer
abbrev pub unknown_at : Published
unknown_at = record { place = Some 1; kept = 0; late = 0; done = 0; end = end_of.Unknown 1 }

abbrev pub restarted : List (Event Seen (Unit {0}))
restarted = event 0 (what.Follow to_other (followed.Restarted 0 1)) ∷ event 1 (what.Publish early unknown_at) ∷ []

abbrev pub seen_as : Seen → Seen
seen_as r = r

-- with a capacity of 4
abbrev pub state_after : List (Event Seen (Unit {0})) → State Seen (Unit {0})
state_after hs = after_all seen_as 4 (at_start (pinned begun)) hs

abbrev pub Plays : List (Event Seen (Unit {0})) → Type 0
Plays hs = IsPlay seen_as 4 (at_start (pinned begun)) hs
