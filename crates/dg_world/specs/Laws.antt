-- What holds of a world at every moment, whatever events led to it.
use Rattle.std.specs.Prelude.{◌≡◌, ℕ, ◌+◌, List, ◌∷◌, ◌++◌, Some, filter, length, slice_get}
use Rattle.std.specs.List.{Contains}
use Rattle.dg_base.specs.declared.ids.Endpoint.{Endpoint}
use Rattle.dg_base.specs.Tables.{Tables}
use Rattle.dg_cache.specs.declared.entry.Entry.{Entry}
use Rattle.dg_line.specs.Revisions.{Seen}
use Rattle.dg_line.specs.Tickets.{Pin}
use Rattle.dg_offer.specs.Offers.{Offered}
use Rattle.dg_desk.specs.declared.event.What.TheVariants as what
use Rattle.dg_desk.specs.declared.event.Published.{Published}
use Rattle.dg_desk.specs.Machine.{Event}
use Rattle.dg_desk.specs.Coherent.{IsPublished, IsRight}
use Rattle.dg_desk.specs.Desks.{state_of, is_step}
use Rattle.dg_world.specs.Worlds.{Worlded}

-- an endpoint was published before, at a revision whose counter of it is that of this revision
pub record IsSourced {A B : Type 0} (see : A → Seen) (now : Seen) (hs : List (Event A B)) (e : Endpoint) : Type 0 where
  pub entry : Entry
  pub at : entry.at ≡ e
  pub published : IsPublished see now hs entry

-- all that an offer found known was published before
abbrev pub HasSources : {A B : Type 0} → (A → Seen) → List (Event A B) → Offered A B → Type 0
HasSources see hs o = (e : Endpoint) → Contains o.hits e → IsSourced see (see o.ticket.revision) hs e

-- so it is for each publication of a history, by the records before it
abbrev pub AreSourced : {A B : Type 0} → (A → Seen) → List (Event A B) → Type 0
AreSourced {A} {B} see hs =
    (before later : List (Event A B)) (e : Event A B) (o : Offered A B) (a : Published) → hs ≡ before ++ e ∷ later → e.what ≡ what.Publish o a → HasSources see before o

-- the desk is at the editor's revision, and has a record for each revision that followed; the line has what the
-- desk lists; pins and offers are of listed revisions; each offer has its place's number, and is right; and what
-- an evaluation found known was published before
pub record IsWorld {N M : Type 0} (t : Tables) (see : Seen → Seen) (of : Pin Seen M → Type 0) (w : Worlded N M) : Type 0 where
  pub now : (state_of see w.desk).now ≡ w.editor.here
  pub number : (see w.desk.opened.revision).number + length (filter (λ e. is_step e.what) w.desk.history) ≡ (see w.editor.here.revision).number
  pub line : (p : Pin Seen M) → Contains (state_of see w.desk).list p → of p
  pub pins : (p : Pin Seen M) → Contains w.pins (Some p) → Contains (state_of see w.desk).list p
  pub offers : (o : Offered Seen M) → Contains w.offers o → Contains (state_of see w.desk).list o.ticket
  pub asks : (n : ℕ) (o : Offered Seen M) → slice_get w.offers n ≡ Some o → o.ask ≡ n
  pub right : (o : Offered Seen M) → Contains w.offers o → IsRight see t o
  pub sources : (o : Offered Seen M) → Contains w.offers o → HasSources see w.desk.history o
  pub published : AreSourced see w.desk.history
