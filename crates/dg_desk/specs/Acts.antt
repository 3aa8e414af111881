-- What the code of each act does to the entries, by its answer.
use Rattle.std.specs.Prelude.{◌≡◌, ◌+◌, ◌<◌, ℕ, List, [], Bool, true, false}
use Rattle.dg_base.specs.declared.ids.Endpoint.{Endpoint}
use Rattle.dg_cache.specs.declared.entry.Entry.{Entry}
use Rattle.std.specs.List.{Contains}
use Rattle.std.specs.Prelude.{Option, Some, None}
use Rattle.dg_cache.specs.Entries.{without}
use Rattle.dg_line.specs.Revisions.{Seen}
use Rattle.dg_line.specs.Tickets.{Pin}
use Rattle.dg_offer.specs.Offers.{Offered}
use Rattle.dg_desk.specs.Machine.{is_listed, unchanged}
use Rattle.dg_desk.specs.Desks.{Desked, state_of}
use Rattle.dg_desk.specs.declared.event.Published.{Published}
use Rattle.dg_desk.specs.declared.event.PublishEnd.{PublishEnd}
use Rattle.dg_desk.specs.declared.event.PublishEnd.TheVariants as end_of
use Rattle.dg_desk.specs.declared.event.Followed.{Followed}
use Rattle.dg_desk.specs.declared.event.Followed.TheVariants as followed

-- the entries that a follow leaves
abbrev pub entries_followed : List Endpoint → List Entry → Followed → List Entry
entries_followed dirty es followed.Kept = without dirty es
entries_followed dirty es (followed.Restarted had wanted) = []
entries_followed dirty es followed.Cleared = []

-- the answer to a follow, where it is known whether the desk meets the link
abbrev pub IsFollowedBy : Bool → ℕ → ℕ → Followed → Type 0
IsFollowedBy meets had wanted followed.Kept = meets ≡ true
IsFollowedBy meets had wanted (followed.Restarted h w) = (meets ≡ false) × (h ≡ had) × (w ≡ wanted)
IsFollowedBy meets had wanted followed.Cleared = meets ≡ true

-- a listed ticket has a ticket's index and holds its revision
pub record IsListedAs {A B : Type 0} (list : List (Pin A B)) (ticket : Pin A B) : Type 0 where
  pub pin : Pin A B
  pub among : Contains list pin
  pub index : pin.index ≡ ticket.index
  pub revision : pin.revision ≡ ticket.revision

-- what is kept of an offer, where its revision is listed
abbrev pub IsKept : {A B : Type 0} → (A → Seen) → Desked A B → Offered A B → Option (List Entry) → Type 0
IsKept see d o None = is_listed (state_of see d).list o.ticket.index ≡ false
IsKept see d o (Some kept) =
    IsListedAs (state_of see d).list o.ticket × (kept ≡ unchanged (see o.ticket.revision) (see (state_of see d).now.revision) o.entries)

-- the answer where so many of all entries are kept and these are put
abbrev pub IsPut : ℕ → ℕ → Published → PublishEnd → Type 0
IsPut all kept a end_of.All = (a.kept ≡ kept) × (a.kept + a.late ≡ all) × (a.done ≡ kept)
IsPut all kept a end_of.NoMemory = (a.kept ≡ kept) × (a.kept + a.late ≡ all) × (a.done < kept)
IsPut all kept a (end_of.Unknown index) = ⊥
