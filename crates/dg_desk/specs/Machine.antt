-- The desk as a machine over lists: the revision that it is at, the revisions that it passed, and the entries
-- of a bounded cache, most recent first.
use Rattle.std.specs.Prelude.{◌==◌, ℕ, List, [], ◌∷◌, ◌++◌, Bool, filter, take}
use Rattle.std.specs.List.{list_any}
use Rattle.dg_base.specs.declared.ids.Endpoint.{Endpoint}
use Rattle.dg_cache.specs.declared.entry.Entry.{Entry}
use Rattle.dg_cache.specs.Entries.{without, put_all, touched}
use Rattle.dg_cache.specs.Caches.{evicted}
use Rattle.dg_line.specs.Revisions.{Seen, counter_at}
use Rattle.dg_line.specs.Tickets.{Pin}
use Rattle.dg_line.specs.Links.{Linked}
use Rattle.dg_offer.specs.Offers.{Offered}
use Rattle.dg_desk.specs.declared.event.What.{What}
use Rattle.dg_desk.specs.declared.event.What.TheVariants as what
use Rattle.dg_desk.specs.declared.event.DeskEvent.{DeskEvent}
use Rattle.dg_desk.specs.declared.event.Followed.{Followed}
use Rattle.dg_desk.specs.declared.event.Followed.TheVariants as followed
use Rattle.dg_desk.specs.declared.event.PublishEnd.{PublishEnd}
use Rattle.dg_desk.specs.declared.event.PublishEnd.TheVariants as end_of

-- what is done at a desk, and a record of it
abbrev pub Act : Type 0 → Type 0 → Type 0
Act A B = What (Linked A B) (Offered A B) (Pin A B)

abbrev pub Event : Type 0 → Type 0 → Type 0
Event A B = DeskEvent (Linked A B) (Offered A B) (Pin A B)

pub record State (A B : Type 0) : Type 0 where
  pub now : Pin A B
  pub list : List (Pin A B)
  pub entries : List Entry

-- at a revision that is the only one listed, without entries
abbrev pub at_start : {A B : Type 0} → Pin A B → State A B
at_start p = record { now = p; list = p ∷ []; entries = [] }

-- at the next revision, with these entries
abbrev pub at_next : {A B : Type 0} → State A B → Pin A B → List Entry → State A B
at_next s to es = record { now = to; list = s.list ++ to ∷ []; entries = es }

-- at the same revision, with these entries
abbrev pub holding : {A B : Type 0} → State A B → List Entry → State A B
holding s es = record { now = s.now; list = s.list; entries = es }

-- whether a revision with an index is listed
abbrev pub is_listed : {A B : Type 0} → List (Pin A B) → ℕ → Bool
is_listed ps i = list_any (λ p. p.index == i) ps

-- the entries whose endpoints have the same counter in both revisions
abbrev pub is_unchanged : Seen → Seen → Entry → Bool
is_unchanged then now x = counter_at now x.at == counter_at then x.at

abbrev pub unchanged : Seen → Seen → List Entry → List Entry
unchanged then now es = filter (is_unchanged then now) es

-- a link that begins here leaves the entries outside of what is dirty, or none for want of memory; after one
-- that begins elsewhere the desk starts anew at its end
abbrev pub after_follow : {A B : Type 0} → State A B → Pin A B → List Endpoint → Followed → State A B
after_follow s to dirty followed.Kept = at_next s to (without dirty s.entries)
after_follow s to dirty (followed.Restarted had wanted) = at_start to
after_follow s to dirty followed.Cleared = at_next s to []

-- the hits that are there go to the front, in order, and then the first so many of the kept entries are put
abbrev pub after_publish : ℕ → List Entry → List Entry → List Endpoint → ℕ → PublishEnd → List Entry
after_publish c es kept hits done (end_of.Unknown index) = es
after_publish c es kept hits done _ = put_all c (take done kept) (touched hits es)

-- each act with its answer; `see` is how contracts see a revision
abbrev pub after : {A B : Type 0} → (A → Seen) → ℕ → State A B → Act A B → State A B
after see c s (what.Follow link answer) = after_follow s link.to link.dirty answer
after see c s (what.Publish o answer) =
    holding s (after_publish c s.entries (unchanged (see o.ticket.revision) (see s.now.revision) o.entries) o.hits answer.done answer.end)
after see c s (what.Evict most answer) = holding s (evicted answer.gone s.entries)
after see c s (what.Settle to) = at_start to

-- the acts of a history, one after the other
abbrev pub after_all : {A B : Type 0} → (A → Seen) → ℕ → State A B → List (Event A B) → State A B
after_all see c s [] = s
after_all see c s (e ∷ es) = after_all see c (after see c s e.what) es
