-- What each event of a world answers, and what it leaves.
use Rattle.std.specs.Prelude.{◌≡◌, ℕ, ◌+◌, ◌==◌, cond, List, [], ◌∷◌, ◌++◌, Option, Some, None, Result, Ok, Err, map, length, set, slice_get}
use Rattle.dg_base.specs.declared.ids.Endpoint.{Endpoint}
use Rattle.dg_base.specs.declared.ids.NodeId.{NodeId}
use Rattle.dg_base.specs.declared.answer.Answer.{Answer}
use Rattle.dg_base.specs.declared.refusal.Refusal.TheVariants as refusal
use Rattle.dg_base.specs.Tables.{Tables}
use Rattle.dg_base.specs.Graph.{Graph}
use Rattle.dg_base.specs.Value.{value_at}
use Rattle.dg_base.specs.Evaluation.{Evaluated, evaluated, nothing_evaluated, productions, cached_outputs}
use Rattle.dg_base.specs.Transact.{applied}
use Rattle.dg_cache.specs.declared.entry.Entry.{Entry}
use Rattle.dg_cache.specs.Entries.{ends_of, in_order}
use Rattle.dg_line.specs.Revisions.{Seen}
use Rattle.dg_line.specs.Tickets.{Pin}
use Rattle.dg_line.specs.Links.{IsLink, Linked}
use Rattle.dg_offer.specs.Offers.{Offered}
use Rattle.dg_desk.specs.declared.event.What.TheVariants as what
use Rattle.dg_desk.specs.declared.event.Followed.{Followed}
use Rattle.dg_desk.specs.declared.event.Followed.TheVariants as followed
use Rattle.dg_desk.specs.declared.event.Published.{Published}
use Rattle.dg_desk.specs.declared.event.PublishEnd.{PublishEnd}
use Rattle.dg_desk.specs.declared.event.PublishEnd.TheVariants as publish_end
use Rattle.dg_desk.specs.Desks.{Desked, state_of, recorded, snapshot_of, IsPublication, IsEviction}
use Rattle.dg_editor.specs.declared.cause.EditCause.{EditCause}
use Rattle.dg_editor.specs.Machine.{State, edited, made_by, undo_of, redo_of}
use Rattle.dg_editor.specs.Seeing.{IsUnchanged, state_of as editor_of}
use Rattle.dg_world.specs.declared.event.Event.{Event}
use Rattle.dg_world.specs.declared.event.Event.TheVariants as event
use Rattle.dg_world.specs.declared.event.Outcome.{Outcome}
use Rattle.dg_world.specs.declared.event.Outcome.TheVariants as outcome
use Rattle.dg_world.specs.Worlds.{Worlded, pin_at}

-- nothing changed. The line may hold one revision more, of which nobody has a ticket
pub record IsSame {N M : Type 0} (w v : Worlded N M) : Type 0 where
  pub editor : IsUnchanged w.editor v.editor
  pub desk : v.desk ≡ w.desk
  pub pins : v.pins ≡ w.pins
  pub offers : v.offers ≡ w.offers
  pub made : v.made ≡ w.made

-- ---- an edit, an undo and a redo

-- the desk was where the link begins
abbrev pub IsMet : Followed → Type 0
IsMet (followed.Restarted had wanted) = ⊥
IsMet _ = Unit {0}

-- the editor is at its next revision, and the desk followed it there; `see` is how contracts see a revision
pub record IsMoved {N M : Type 0} (t : Tables) (see : Seen → Seen) (w v : Worlded N M) (answer : Followed) : Type 0 where
  pub link : Linked Seen M
  pub right : IsLink t (see link.from.revision) (see link.to.revision) link.dirty
  pub from : link.from ≡ w.editor.here
  pub to : link.to ≡ v.editor.here
  pub desk : v.desk ≡ recorded see w.desk (what.Follow link answer)
  pub met : IsMet answer
  pub pins : v.pins ≡ w.pins
  pub offers : v.offers ≡ w.offers
  pub made : v.made ≡ w.made

-- what the editor answers, and the nodes that are made
abbrev pub IsEdited : {N M : Type 0} → Tables → (Seen → Seen) → Worlded N M → Worlded N M → Result State EditCause → List NodeId → Outcome → Type 0
IsEdited t see w v r made (outcome.Edited ns answer) = (r ≡ Ok (editor_of v.editor)) × (ns ≡ made) × IsMoved t see w v answer
IsEdited t see w v r made (outcome.Refused (refusal.Because c)) = (r ≡ Err c) × IsSame w v
IsEdited t see w v r made (outcome.Refused refusal.NoMemory) = IsSame w v
IsEdited t see w v r made _ = ⊥

-- ---- pins

-- one more pin, at the current revision, with the next number
pub record IsPinned {N M : Type 0} (w v : Worlded N M) (n : ℕ) : Type 0 where
  pub number : n ≡ length w.pins
  pub pins : v.pins ≡ w.pins ++ Some w.editor.here ∷ []
  pub editor : v.editor ≡ w.editor
  pub desk : v.desk ≡ w.desk
  pub offers : v.offers ≡ w.offers
  pub made : v.made ≡ w.made

abbrev pub IsPin : {N M : Type 0} → Worlded N M → Worlded N M → Outcome → Type 0
IsPin w v (outcome.Pinned n) = IsPinned w v n
IsPin w v outcome.NoMemory = IsSame w v
IsPin w v _ = ⊥

pub record IsDropped {N M : Type 0} (w v : Worlded N M) (n : ℕ) : Type 0 where
  pub pins : v.pins ≡ set w.pins n None
  pub editor : v.editor ≡ w.editor
  pub desk : v.desk ≡ w.desk
  pub offers : v.offers ≡ w.offers
  pub made : v.made ≡ w.made

abbrev pub IsDrop : {N M P : Type 0} → Worlded N M → Worlded N M → ℕ → Option P → Outcome → Type 0
IsDrop w v n (Some p) outcome.Dropped = IsDropped w v n
IsDrop w v n None outcome.NoPin = IsSame w v
IsDrop w v n _ _ = ⊥

-- ---- evaluations

-- what a desk knows of a revision: its entries, where it is the desk's own, and else nothing
abbrev pub known_of : {M : Type 0} → (Seen → Seen) → Desked Seen M → Pin Seen M → List Entry
known_of see d p = cond ((see (state_of see d).now.revision).number == (see p.revision).number) (in_order d.entries) []

-- what it gives for a ticket goes by the index. Of the tickets that it lists that is the same
abbrev pub given_of : {M : Type 0} → (Seen → Seen) → Desked Seen M → Pin Seen M → List Entry
given_of see d p = snapshot_of (state_of see d) p.index

-- the walk of an endpoint where this is known
abbrev pub walk_of : Tables → Graph → List Entry → Endpoint → Evaluated
walk_of t g known e = evaluated t g (ends_of known) nothing_evaluated e

-- endpoints with their values
abbrev pub valued : Tables → Graph → List Endpoint → List Entry
valued t g es = map (λ e. record { at = e; value = value_at t g e }) es

-- what an evaluation offers: the cached outputs that it evaluated, with their values, and what it found known
abbrev pub offer_of : {M : Type 0} → Tables → ℕ → Pin Seen M → Endpoint → Evaluated → Offered Seen M
offer_of t n p e walk = record { ask = n; ticket = p; endpoint = e; entries = valued t p.revision.graph (cached_outputs t p.revision.graph walk.listed); hits = walk.hits }

-- the value at the pin's revision, and an offer more, with the next number
pub record IsAnswered {N M : Type 0} (t : Tables) (see : Seen → Seen) (w v : Worlded N M) (p : Pin Seen M) (e : Endpoint) (held : Answer) (n : ℕ) : Type 0 where
  pub answer : held ≡ value_at t p.revision.graph e
  pub number : n ≡ length w.offers
  pub offers : v.offers ≡ w.offers ++ offer_of t n p e (walk_of t p.revision.graph (known_of see w.desk p) e) ∷ []
  pub made : v.made ≡ w.made + productions t p.revision.graph (walk_of t p.revision.graph (known_of see w.desk p) e).listed
  pub editor : v.editor ≡ w.editor
  pub desk : v.desk ≡ w.desk
  pub pins : v.pins ≡ w.pins

abbrev pub IsEvaluated : {N M : Type 0} → Tables → (Seen → Seen) → Worlded N M → Worlded N M → Option (Pin Seen M) → Endpoint → Outcome → Type 0
IsEvaluated t see w v (Some p) e (outcome.Answered held n) = IsAnswered t see w v p e held n
IsEvaluated t see w v (Some p) e outcome.NoMemory = IsSame w v
IsEvaluated t see w v None e outcome.NoPin = IsSame w v
IsEvaluated t see w v _ e _ = ⊥

-- the productions that an evaluation takes
abbrev pub productions_at : {N M : Type 0} → Tables → (Seen → Seen) → Worlded N M → Option (Pin Seen M) → Endpoint → ℕ
productions_at t see w None e = 0
productions_at t see w (Some p) e = productions t p.revision.graph (walk_of t p.revision.graph (known_of see w.desk p) e).listed

-- ---- publications and evictions

abbrev pub IsListed : PublishEnd → Type 0
IsListed (publish_end.Unknown index) = ⊥
IsListed _ = Unit {0}

-- the desk took an offer, whose revision it knows
pub record IsPublished {N M : Type 0} (see : Seen → Seen) (w v : Worlded N M) (o : Offered Seen M) (a : Published) : Type 0 where
  pub desk : IsPublication see w.desk o a v.desk a.place
  pub listed : IsListed a.end
  pub editor : v.editor ≡ w.editor
  pub pins : v.pins ≡ w.pins
  pub offers : v.offers ≡ w.offers
  pub made : v.made ≡ w.made

abbrev pub IsPublish : {N M : Type 0} → (Seen → Seen) → Worlded N M → Worlded N M → Option (Offered Seen M) → Outcome → Type 0
IsPublish see w v (Some o) (outcome.Published a) = IsPublished see w v o a
IsPublish see w v (Some o) outcome.NoMemory = IsSame w v
IsPublish see w v None outcome.NoOffer = IsSame w v
IsPublish see w v _ _ = ⊥

abbrev pub IsEvict : {N M : Type 0} → (Seen → Seen) → Worlded N M → Worlded N M → ℕ → Outcome → Type 0
IsEvict see w v most (outcome.Evicted a) = IsEviction see w.desk most a v.desk × (v.editor ≡ w.editor) × (v.pins ≡ w.pins) × (v.offers ≡ w.offers) × (v.made ≡ w.made)
IsEvict see w v most _ = ⊥

-- ---- events

abbrev pub IsStep : {N M : Type 0} → Tables → (Seen → Seen) → Worlded N M → Event → Outcome → Worlded N M → Type 0
IsStep t see w (event.Edit ss) a v = IsEdited t see w v (edited t (editor_of w.editor) ss) (made_by (applied t w.editor.here.revision.graph w.editor.here.revision.next ss)) a
IsStep t see w event.Undo a v = IsEdited t see w v (undo_of t (editor_of w.editor)) [] a
IsStep t see w event.Redo a v = IsEdited t see w v (redo_of t (editor_of w.editor)) [] a
IsStep t see w event.Pin a v = IsPin w v a
IsStep t see w (event.Evaluate n e) a v = IsEvaluated t see w v (pin_at w.pins n) e a
IsStep t see w (event.Publish n) a v = IsPublish see w v (slice_get w.offers n) a
IsStep t see w (event.Evict most) a v = IsEvict see w v most a
IsStep t see w (event.Drop n) a v = IsDrop w v n (pin_at w.pins n) a

-- the productions that an event takes: those of an evaluation at a live pin
abbrev pub productions_of : {N M : Type 0} → Tables → (Seen → Seen) → Worlded N M → Event → ℕ
productions_of t see w (event.Evaluate n e) = productions_at t see w (pin_at w.pins n) e
productions_of t see w _ = 0
