-- Each event of a world: what it answers, and what it leaves.
use Rattle.std.proofs.Common.{◌≡◌, ℕ, ◌==◌, ◌<◌, get_or, Bool, true, false, List, [], Option, Some, None, Result, Ok, Err, is_some, is_ok, is_err, if◌then◌else◌, slice_get, length, Contains, refl, sym, subst, arith}
use Rattle.std.proofs.lemmas.Option.{slice_get_within, slice_get_read, get_or_from_slice_get}
use Rattle.std.proofs.lemmas.Bool.Decides.{nat_tests}
use Rattle.std.specs.Option.{option_copied}
use Rattle.std.specs.Borrow.{Bor}
use Rattle.dg_base.specs.declared.ids.NodeId.{NodeId}
use Rattle.dg_base.specs.declared.refusal.Refusal.{Refusal}
use Rattle.dg_base.specs.declared.refusal.Refusal.TheVariants as refusal
use Rattle.dg_base.specs.Refusal.{Gives}
use Rattle.dg_base.specs.Tables.{Tables}
use Rattle.dg_cache.specs.declared.cache.Evicted.{Evicted}
use Rattle.dg_laws.proofs.Members.{list_any_from}
use Rattle.dg_line.specs.Revisions.{Seen}
use Rattle.dg_line.specs.Links.{IsLink, Linked}
use Rattle.dg_line.specs.Tickets.{Pin}
use Rattle.dg_offer.specs.Offers.{Offered}
use Rattle.dg_desk.specs.declared.event.What.TheVariants as what
use Rattle.dg_desk.specs.declared.event.Followed.{Followed}
use Rattle.dg_desk.specs.declared.event.Published.{Published}
use Rattle.dg_desk.specs.declared.event.PublishEnd.{PublishEnd}
use Rattle.dg_desk.specs.declared.event.PublishEnd.TheVariants as publish_end
use Rattle.dg_desk.specs.Machine.{Act, is_listed}
use Rattle.dg_desk.specs.Desks.{Desked, state_of, recorded, IsPublication, IsPublishEnd, IsEviction, IsEvictionBy, is_refused}
use Rattle.dg_editor.specs.declared.cause.EditCause.{EditCause}
use Rattle.dg_editor.specs.Machine.{State}
use Rattle.dg_editor.specs.Seeing.{Editing}
use Rattle.dg_world.specs.declared.event.Outcome.TheVariants as outcome
use Rattle.dg_world.specs.Worlds.{Worlded}
use Rattle.dg_world.specs.Steps.{IsSame, IsMet, IsListed, IsEdited, IsDropped, IsDrop, IsPublished, IsPublish}
use Rattle.dg_world.specs.Laws.{HasSources, IsWorld}
use Rattle.dg_world.proofs.Keeping.{opened, moved, acted}

-- a look-up that found something
pub get-found : {A : Type 0} (xs : List A) (n : ℕ) (x : A) → n < length xs → x ≡ get_or xs n x → slice_get xs n ≡ Some x
get-found xs n x lt is = slice_get_read xs (length xs) n x refl lt is

pub get-among : {A : Type 0} (xs : List A) (n : ℕ) (x : A) → slice_get xs n ≡ Some x → Contains xs x
get-among xs n x is = (n, slice_get_within xs n x is, get_or_from_slice_get xs n x x is)

pub pushed-ok : {A X E : Type 0} (r : Result X E) (xs ys : A) → is_err r ≡ false → (if is_ok r then xs else ys) ≡ xs
pushed-ok (Ok x) xs ys h = refl
pushed-ok (Err e) xs ys h = absurd cc

pub same-itself : {N M : Type 0} (w : Worlded N M) → IsSame w w
same-itself w = record { editor = record { here = refl; passed = refl; history = refl }; desk = refl; pins = refl; offers = refl; made = refl }

-- ---- an edit, an undo and a redo

pub refused-answer : {N M X : Type 0} (t : Tables) (see : Seen → Seen) (f : X → State) (w v : Worlded N M) (r : Result State EditCause) (made : List NodeId) (x : Refusal EditCause) →
    Gives f (Err x) r → IsSame w v → IsEdited t see w v r made (outcome.Refused x)
refused-answer t see f w v r made (refusal.Because b) h same = (h, same)
refused-answer t see f w v r made refusal.NoMemory h same = same

offer_is : {M : Type 0} (o p : Offered Seen M) (a b : Published) → ◌≡◌ {A = Act Seen M} (what.Publish o a) (what.Publish p b) → o ≡ p
offer_is {M} o p a b is = cc

module _ {N M : Type 0} (t : Tables) (see : Seen → Seen) where
  pub opened-by : (of : Pin Seen M → Type 0) (e : Editing N M) (c : ℕ) (d : Desked Seen M) (ps : List (Option (Pin Seen M))) (os : List (Offered Seen M)) → of e.here →
      d ≡ record { opened = e.here; capacity = c; entries = []; history = []; pass = 0 } → ps ≡ [] → os ≡ [] →
      IsWorld t see of (record { editor = e; desk = d; pins = ps; offers = os; made = 0 })
  opened-by of e c d ps os here desk pins offers = rw (desk, pins, offers) (opened t see of e c 0 here)

  pub moved-by : (of of' : Pin Seen M → Type 0) (w : Worlded N M) (e : Editing N M) (link : Linked Seen M) (a : Followed) (d : Desked Seen M) → IsWorld t see of w →
      ((p : Pin Seen M) → of p → of' p) → of' e.here → IsLink t (see link.from.revision) (see link.to.revision) link.dirty → link.from ≡ w.editor.here → link.to ≡ e.here → IsMet a →
      d ≡ recorded see w.desk (what.Follow link a) → IsWorld t see of' (record { editor = e; desk = d; pins = w.pins; offers = w.offers; made = w.made })
  moved-by of of' w e link a d world stays here right from to met is =
      subst (λ (z : Desked Seen M). IsWorld t see of' (record { editor = e; desk = z; pins = w.pins; offers = w.offers; made = w.made })) (sym is)
      (moved t see of of' w e link a world stays here right from to met)

  -- ---- a publication

  published-place : (of : Pin Seen M → Type 0) (w : Worlded N M) (o : Offered Seen M) (a : Published) (d : Desked Seen M) (place : Option ℕ) → IsWorld t see of w → Contains w.offers o →
      IsPublication see w.desk o a d place → IsWorld t see of (record { editor = w.editor; desk = d; pins = w.pins; offers = w.offers; made = w.made })
  published-place of w o a d (Some place) world there h =
      subst (λ (z : Desked Seen M). IsWorld t see of (record { editor = w.editor; desk = z; pins = w.pins; offers = w.offers; made = w.made })) (sym h.1)
      (acted t see of w (what.Publish o a) world refl refl refl (λ p b is. subst (HasSources see w.desk.history) (offer_is o p a b is) (world.sources o there)))
  published-place of w o a d None world there h =
      subst (λ (z : Desked Seen M). IsWorld t see of (record { editor = w.editor; desk = z; pins = w.pins; offers = w.offers; made = w.made })) (sym h.0) world

  pub published-by : (of : Pin Seen M → Type 0) (w : Worlded N M) (o : Offered Seen M) (a : Published) (d : Desked Seen M) → IsWorld t see of w → Contains w.offers o →
      IsPublication see w.desk o a d a.place → IsWorld t see of (record { editor = w.editor; desk = d; pins = w.pins; offers = w.offers; made = w.made })
  published-by of w o a d = published-place of w o a d a.place

  -- ---- an eviction

  evicted-refused : (of : Pin Seen M → Type 0) (w : Worlded N M) (most : ℕ) (a : Evicted) (d : Desked Seen M) (b : Bool) → IsWorld t see of w → IsEvictionBy b see w.desk most a d →
      IsWorld t see of (record { editor = w.editor; desk = d; pins = w.pins; offers = w.offers; made = w.made })
  evicted-refused of w most a d true world h =
      subst (λ (z : Desked Seen M). IsWorld t see of (record { editor = w.editor; desk = z; pins = w.pins; offers = w.offers; made = w.made })) (sym h) world
  evicted-refused of w most a d false world h =
      subst (λ (z : Desked Seen M). IsWorld t see of (record { editor = w.editor; desk = z; pins = w.pins; offers = w.offers; made = w.made })) (sym h.0)
      (acted t see of w (what.Evict most a) world refl refl refl (λ p b is. absurd (evict_publish p b is)))
    where
      evict_publish : (p : Offered Seen M) (b : Published) → ◌≡◌ {A = Act Seen M} (what.Evict most a) (what.Publish p b) → ⊥
      evict_publish p b is = cc

  pub evicted-by : (of : Pin Seen M → Type 0) (w : Worlded N M) (most : ℕ) (a : Evicted) (d : Desked Seen M) → IsWorld t see of w → IsEviction see w.desk most a d →
      IsWorld t see of (record { editor = w.editor; desk = d; pins = w.pins; offers = w.offers; made = w.made })
  evicted-by of w most a d = evicted-refused of w most a d (is_refused a)

-- ---- what a publication answers

is_same : (n : ℕ) → (n == n) ≡ true
is_same n = grind (arith, nat_tests)

listed-end : (b : Bool) (index all kept : ℕ) (a : Published) (end : PublishEnd) → b ≡ true → IsPublishEnd b index all kept a end → IsListed end
listed-end b index all kept a publish_end.All is h = tt
listed-end b index all kept a publish_end.NoMemory is h = tt
listed-end b index all kept a (publish_end.Unknown i) is h = absurd (let no = h.0 in cc)

module _ {M : Type 0} (see : Seen → Seen) where
  listed-place : (d : Desked Seen M) (o : Offered Seen M) (a : Published) (new : Desked Seen M) (place : Option ℕ) → Contains (state_of see d).list o.ticket → IsPublication see d o a new place → IsListed a.end
  listed-place d o a new (Some place) there h =
      listed-end (is_listed (state_of see d).list o.ticket.index) o.ticket.index _ _ a a.end
      (list_any_from (λ (p : Pin Seen M). p.index == o.ticket.index) (state_of see d).list o.ticket there (is_same o.ticket.index)) h.2
  listed-place d o a new None there h = subst IsListed (sym h.1) tt

  pub listed-publication : (d : Desked Seen M) (o : Offered Seen M) (a : Published) (new : Desked Seen M) → Contains (state_of see d).list o.ticket → IsPublication see d o a new a.place → IsListed a.end
  listed-publication d o a new = listed-place d o a new a.place

pub published-answer : {N M : Type 0} (see : Seen → Seen) (w v : Worlded N M) (o : Offered Seen M) (a : Published) (x : Option (Offered Seen M)) → x ≡ Some o → IsPublished see w v o a →
    IsPublish see w v x (outcome.Published a)
published-answer {M = M} see w v o a x is h = subst (λ (z : Option (Offered Seen M)). IsPublish see w v z (outcome.Published a)) (sym is) h

pub unpublished-answer : {N M : Type 0} (see : Seen → Seen) (w : Worlded N M) (o : Offered Seen M) (x : Option (Offered Seen M)) → x ≡ Some o → IsPublish see w w x outcome.NoMemory
unpublished-answer {M = M} see w o x is = subst (λ (z : Option (Offered Seen M)). IsPublish see w w z outcome.NoMemory) (sym is) (same-itself w)

-- ---- a drop

pub dropped-answer : {N M P : Type 0} (w v : Worlded N M) (n : ℕ) (o : Option P) → is_some o ≡ true → IsDropped w v n → IsDrop w v n o outcome.Dropped
dropped-answer w v n (Some p) is h = h
dropped-answer w v n None is h = absurd cc

pub is_some-copied : {A : Type 0} (o : Option (Bor A)) → is_some o ≡ true → is_some (option_copied o) ≡ true
is_some-copied (Some b) is = refl
is_some-copied None is = is
