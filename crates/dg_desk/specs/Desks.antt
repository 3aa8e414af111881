-- What contracts see of a desk, and that its history is a play of the machine.
use Rattle.std.specs.Prelude.{◌≡◌, ◌≢◌, ◌<◌, ◌+◌, ◌-◌, ◌==◌, ℕ, List, [], ◌∷◌, ◌++◌, cond, true, false, Bool, filter, length, min, refl, Option, Some, None}
use Rattle.std.specs.Coded.{Coded, code_by, coded×, coded⊎, coded_ℕ, coded_list}
use Rattle.std.specs.Prelude.{◌⊎◌}
use Rattle.std.proofs.Common.{inl, inr}
use Rattle.dg_base.specs.declared.limits.TheConstants.{REVISIONS}
use Rattle.dg_base.specs.Tables.{Tables}
use Rattle.dg_cache.specs.declared.entry.Entry.{Entry}
use Rattle.dg_cache.specs.declared.cache.Evicted.{Evicted}
use Rattle.dg_cache.specs.declared.cache.EvictEnd.{EvictEnd}
use Rattle.dg_cache.specs.declared.cache.EvictEnd.TheVariants as evict_end
use Rattle.dg_cache.specs.contracts.entry.Entry as entry_type
use Rattle.dg_cache.specs.contracts.cache.Evicted as evicted_type
use Rattle.dg_cache.specs.Entries.{in_order}
use Rattle.dg_line.specs.Revisions.{Seen}
use Rattle.dg_line.specs.Tickets.{Pin, pin_code}
use Rattle.dg_line.specs.Links.{Linked, linked_code}
use Rattle.dg_offer.specs.Offers.{Offered, offered_code}
use Rattle.dg_desk.specs.declared.event.What.TheVariants as what
use Rattle.dg_desk.specs.declared.event.Followed.{Followed}
use Rattle.dg_desk.specs.declared.event.Followed.TheVariants as followed
use Rattle.dg_desk.specs.declared.event.Published.{Published}
use Rattle.dg_desk.specs.declared.event.PublishEnd.{PublishEnd}
use Rattle.dg_desk.specs.declared.event.PublishEnd.TheVariants as end_of
use Rattle.dg_desk.specs.contracts.event.Followed as followed_type
use Rattle.dg_desk.specs.contracts.event.Published as published_type
use Rattle.dg_desk.specs.Machine.{Act, Event, State, at_start, is_listed, unchanged, after, after_all}
use Rattle.dg_desk.specs.Coherent.{IsCoherent}

-- the revision of its opening, the capacity of its cache, the entries, most recent first, the records of what was
-- done, and the pass that the next record has
pub record Desked (A B : Type 0) : Type 0 where
  pub opened : Pin A B
  pub capacity : ℕ
  pub entries : List Entry
  pub history : List (Event A B)
  pub pass : ℕ

-- what the machine reaches from the opening by the records of the history
abbrev pub state_of : {A B : Type 0} → (A → Seen) → Desked A B → State A B
state_of see d = after_all see d.capacity (at_start d.opened) d.history

-- ---- which answers there may be

-- to a follow, where the desk is at one index and the link begins at another
abbrev pub IsFollowed : ℕ → ℕ → Followed → Type 0
IsFollowed had wanted followed.Kept = had ≡ wanted
IsFollowed had wanted (followed.Restarted h w) = (h ≡ had) × (w ≡ wanted) × (had ≢ wanted)
IsFollowed had wanted followed.Cleared = had ≡ wanted

-- to a publication of so many entries at an index, of which so many are kept
abbrev pub IsPublishEnd : Bool → ℕ → ℕ → ℕ → Published → PublishEnd → Type 0
IsPublishEnd listed index all kept a (end_of.Unknown i) = (listed ≡ false) × (i ≡ index) × (a.kept ≡ 0) × (a.late ≡ 0) × (a.done ≡ 0)
IsPublishEnd listed index all kept a end_of.All = (listed ≡ true) × (a.kept ≡ kept) × (a.kept + a.late ≡ all) × (a.done ≡ kept)
IsPublishEnd listed index all kept a end_of.NoMemory = (listed ≡ true) × (a.kept ≡ kept) × (a.kept + a.late ≡ all) × (a.done < kept)

-- to an eviction of at most so many of so many entries, which dropped some or all of them
abbrev pub IsEvicted : ℕ → ℕ → ℕ → EvictEnd → Type 0
IsEvicted most all gone evict_end.All = gone ≡ min most all
IsEvicted most all gone evict_end.NoMemory = (0 < gone) × (gone < min most all)

abbrev pub HasAnswer : {A B : Type 0} → (A → Seen) → State A B → Act A B → Type 0
HasAnswer see s (what.Follow link a) = IsFollowed s.now.index link.from.index a
HasAnswer see s (what.Publish o a) =
    IsPublishEnd (is_listed s.list o.ticket.index) o.ticket.index (length o.entries) (length (unchanged (see o.ticket.revision) (see s.now.revision) o.entries)) a a.end
HasAnswer see s (what.Evict most a) = IsEvicted most (length s.entries) a.gone a.end
HasAnswer see s (what.Settle to) = Unit {0}

-- each record of a history has an answer that there may be
abbrev pub IsPlay : {A B : Type 0} → (A → Seen) → ℕ → State A B → List (Event A B) → Type 0
IsPlay see c s [] = Unit {0}
IsPlay see c s (e ∷ es) = HasAnswer see s e.what × IsPlay see c (after see c s e.what) es

-- the entries are those that the machine reaches, and what it reaches is coherent
pub record IsDesk {A B : Type 0} (see : A → Seen) (t : Tables) (d : Desked A B) : Type 0 where
  pub entries : d.entries ≡ (state_of see d).entries
  pub play : IsPlay see d.capacity (at_start d.opened) d.history
  pub coherent : IsCoherent see t (state_of see d) d.history

-- ---- one record more

-- the number of earlier records with the pass
abbrev pub nth_of : {A B : Type 0} → ℕ → List (Event A B) → ℕ
nth_of pass hs = length (filter (λ e. e.pass == pass) hs)

abbrev pub event_of : {A B : Type 0} → Desked A B → Act A B → Event A B
event_of d w = record { pass = d.pass; nth = nth_of d.pass d.history; what = w }

abbrev pub recorded : {A B : Type 0} → (A → Seen) → Desked A B → Act A B → Desked A B
recorded see d w = record {
  opened = d.opened;
  capacity = d.capacity;
  entries = (after see d.capacity (state_of see d) w).entries;
  history = d.history ++ event_of d w ∷ [];
  pass = d.pass;
}

-- a publication is one record more, with its place; where its place is none, nothing changed for want of memory
abbrev pub IsPublication : {A B : Type 0} → (A → Seen) → Desked A B → Offered A B → Published → Desked A B → Option ℕ → Type 0
IsPublication see d o a new (Some place) = (place ≡ length d.history) × (new ≡ recorded see d (what.Publish o a)) × HasAnswer see (state_of see d) (what.Publish o a)
IsPublication see d o a new None = (new ≡ d) × (a.end ≡ end_of.NoMemory) × (a.done ≡ 0)

-- whether memory was wanted before an entry was dropped
abbrev pub is_refused_at : ℕ → EvictEnd → Bool
is_refused_at gone evict_end.All = false
is_refused_at gone evict_end.NoMemory = gone == 0

abbrev pub is_refused : Evicted → Bool
is_refused a = is_refused_at a.gone a.end

-- an eviction that was refused changes nothing; another one is one record more
abbrev pub IsEvictionBy : {A B : Type 0} → Bool → (A → Seen) → Desked A B → ℕ → Evicted → Desked A B → Type 0
IsEvictionBy true see d most a new = new ≡ d
IsEvictionBy false see d most a new = (new ≡ recorded see d (what.Evict most a)) × HasAnswer see (state_of see d) (what.Evict most a)

-- where all is evicted that can be, it is never refused
abbrev pub IsEviction : {A B : Type 0} → (A → Seen) → Desked A B → ℕ → Evicted → Desked A B → Type 0
IsEviction see d most a new = IsEvictionBy (is_refused a) see d most a new

-- how many more revisions the desk has room for: the follow and settle records are counted
abbrev pub is_step : {A B : Type 0} → Act A B → Bool
is_step (what.Follow link a) = true
is_step (what.Settle to) = true
is_step _ = false

abbrev pub spare : {A B : Type 0} → List (Event A B) → ℕ
spare hs = REVISIONS - length (filter (λ e. is_step e.what) hs)

-- what a snapshot for a revision has
abbrev pub snapshot_of : {A B : Type 0} → State A B → ℕ → List Entry
snapshot_of s index = cond (s.now.index == index) (in_order s.entries) []

-- ---- codes

abbrev pub Sorts : Type 0 → Type 0 → Type 0
Sorts A B = (Linked A B × Followed) ⊎ ((Offered A B × Published) ⊎ ((ℕ × Evicted) ⊎ Pin A B))

abbrev pub sort_of : {A B : Type 0} → Act A B → Sorts A B
sort_of (what.Follow link a) = inl (link, a)
sort_of (what.Publish o a) = inr (inl (o, a))
sort_of (what.Evict m g) = inr (inr (inl (m, g)))
sort_of (what.Settle p) = inr (inr (inr p))

abbrev pub of_sort : {A B : Type 0} → Sorts A B → Act A B
of_sort (inl q) = what.Follow q.0 q.1
of_sort (inr (inl q)) = what.Publish q.0 q.1
of_sort (inr (inr (inl q))) = what.Evict q.0 q.1
of_sort (inr (inr (inr p))) = what.Settle p

abbrev pub sort_back : {A B : Type 0} → (w : Act A B) → of_sort (sort_of w) ≡ w
sort_back (what.Follow link a) = refl
sort_back (what.Publish o a) = refl
sort_back (what.Evict m g) = refl
sort_back (what.Settle p) = refl

abbrev pub act_code : {A B : Type 0} → Coded A → Coded B → Coded (Act A B)
act_code {A} {B} c d = code_by (Sorts A B)
    (coded⊎ (coded× (linked_code c d) followed_type.the_row.coded) (coded⊎ (coded× (offered_code c d) published_type.the_row.coded) (coded⊎ (coded× coded_ℕ evicted_type.the_row.coded) (pin_code c d))))
    sort_of of_sort sort_back

abbrev pub event_code : {A B : Type 0} → Coded A → Coded B → Coded (Event A B)
event_code {A} {B} c d = code_by (ℕ × (ℕ × Act A B)) (coded× coded_ℕ (coded× coded_ℕ (act_code c d)))
    (λ e. (e.pass, (e.nth, e.what))) (λ q. record { pass = q.0; nth = q.1.0; what = q.1.1 }) (λ _. refl)

abbrev pub desk_code : {A B : Type 0} → Coded A → Coded B → Coded (Desked A B)
desk_code {A} {B} c d = code_by (Pin A B × (ℕ × (List Entry × (List (Event A B) × ℕ))))
    (coded× (pin_code c d) (coded× coded_ℕ (coded× (coded_list entry_type.the_row.coded) (coded× (coded_list (event_code c d)) coded_ℕ))))
    (λ k. (k.opened, (k.capacity, (k.entries, (k.history, k.pass)))))
    (λ q. record { opened = q.0; capacity = q.1.0; entries = q.1.1.0; history = q.1.1.1.0; pass = q.1.1.1.1 }) (λ _. refl)
