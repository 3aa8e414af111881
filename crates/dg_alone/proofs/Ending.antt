-- The desk at the end of a play.
use Rattle.std.proofs.Common.{◌≡◌, ℕ, zero, suc, ◌+◌, true, cond, List, [], ◌∷◌, filter, length, refl, sym, ap, ◌∙◌, subst, arith, true≢false}
use Rattle.std.proofs.lemmas.List.{length_push, length-append}
use Rattle.std.proofs.lemmas.List.Sums.{sum_by-cons}
use Rattle.dg_base.specs.Tables.{Tables}
use Rattle.dg_line.specs.Revisions.{Seen}
use Rattle.dg_line.specs.Tickets.{Pin}
use Rattle.dg_laws.proofs.Members.{Contains-head, Contains-none, Contains-tail}
use Rattle.dg_desk.specs.declared.event.What.TheVariants as what
use Rattle.dg_desk.specs.Machine.{Act, Event}
use Rattle.dg_desk.specs.Desks.{IsDesk, is_step}
use Rattle.dg_editor.specs.Seeing.{Editing}
use Rattle.dg_script.specs.declared.command.Command.{Command}
use Rattle.dg_world.specs.Worlds.{Worlded, begun}
use Rattle.dg_world.specs.Laws.{IsWorld}
use Rattle.dg_asks.specs.Told.{AreWhole, as_seen, asks_in, asks_told, follows_in, follows_told, is_whole, numbers_below, numbers_in, numbers_told}
use Rattle.dg_play.specs.Play.{State, played}
use Rattle.dg_play.specs.Work.{Work, no_work, work_of}
use Rattle.dg_play.specs.Desk.{IsDeskOf, answers_in}
use Rattle.dg_alone.specs.Works.{HasDone, IsWhole}
use Rattle.dg_play.proofs.Asked.{worked-asks, worked-evictions}

-- ---- records of a history

module _ {M : Type 0} where
  step-follows : (w : Act Seen M) (e : Event Seen M) (es : List (Event Seen M)) → is_whole w ≡ true → length (cond (is_step w) (e ∷ es) es) ≡ follows_in w + length es
  step-follows (what.Follow link a) e es whole = omega arith
  step-follows (what.Publish o a) e es whole = omega arith
  step-follows (what.Evict most a) e es whole = omega arith
  step-follows (what.Settle to) e es whole = absurd (true≢false (sym whole))

  -- in a history whose records are whole each step is a follow
  follows-steps : (hs : List (Event Seen M)) → AreWhole hs → length (filter (λ (e : Event Seen M). is_step e.what) hs) ≡ follows_told hs
  follows-steps [] whole = refl
  follows-steps (e ∷ es) whole =
      let rest = follows-steps es (λ x h. whole x (Contains-tail e es x h)) in
      let one = step-follows e.what e (filter (λ (x : Event Seen M). is_step x.what) es) (whole e (Contains-head e es)) in
      let split = sum_by-cons (λ (x : Event Seen M). follows_in x.what) e es in
      omega (arith, rest, one, split)

  one-number : (w : Act Seen M) → length (asks_in w) ≡ length (numbers_in w)
  one-number (what.Follow link a) = refl
  one-number (what.Publish o a) = refl
  one-number (what.Evict most a) = refl
  one-number (what.Settle to) = refl

  length-asks : (hs : List (Event Seen M)) → length (asks_told hs) ≡ length (numbers_told hs)
  length-asks [] = refl
  length-asks (e ∷ es) =
      let rest = length-asks es in
      let one = one-number e.what in
      let a = length-append (asks_in e.what) (asks_told es) in
      let n = length-append (numbers_in e.what) (numbers_told es) in
      omega (arith, rest, one, a, n)

length-below : (n : ℕ) → length (numbers_below n) ≡ n
length-below zero = refl
length-below (suc n) = let l = length_push (numbers_below n) n in let k = length-below n in omega (arith, l, k)

-- ---- the desk

module _ {N M : Type 0} (t : Tables) where
  -- where nothing happened yet, no work is done
  pub begun-done : (capacity : ℕ) (e : Editing N M) → HasDone (begun capacity e) e.here.revision capacity no_work
  begun-done capacity e = record { work = refl; opened = refl; capacity_is = refl }

  pub begun-whole : (capacity : ℕ) (e : Editing N M) → IsWhole (begun capacity e)
  begun-whole capacity e = record { records = λ x h. Contains-none x h; numbers = refl }

  pub desk-of : (of : Pin Seen M → Type 0) (v : Worlded N M) (capacity : ℕ) (cs : List Command) (s : State) → IsWorld t as_seen of v → IsDesk as_seen t v.desk → IsWhole v →
      (played t cs s).state.editor.now ≡ v.editor.here.revision → HasDone v s.editor.now capacity (work_of t capacity cs s) → IsDeskOf t capacity cs s v.desk
  desk-of of v capacity cs s world desk whole last h = record {
    coherent = desk;
    now = ap (λ (p : Pin Seen M). p.revision) world.now ∙ sym last;
    follows =
        let number = world.number in
        let steps = follows-steps v.desk.history whole.records in
        let opened = ap (λ (r : Seen). r.number) h.opened in
        let end = ap (λ (r : Seen). r.number) last in
        omega (arith, number, steps, opened, end);
    evictions =
        let e = ap (λ (w : Work). w.evictions) h.work in
        let k = worked-evictions t capacity cs s no_work in
        omega (arith, e, k);
    whole = whole.records;
    asks = asks-is;
    numbers =
        whole.numbers
        ∙ ap numbers_below (sym (ap length (sym asks-is) ∙ length-asks v.desk.history ∙ ap length whole.numbers ∙ length-below (length v.offers)));
    sources = world.published;
    entries = ap (λ (w : Work). w.entries) h.work;
    kept = ap (λ (w : Work). w.kept) h.work;
    late = ap (λ (w : Work). w.late) h.work;
  }
    where
      asks-is : asks_told v.desk.history ≡ answers_in (played t cs s).lines
      asks-is = ap (λ (w : Work). w.asks) h.work ∙ worked-asks t capacity cs s no_work

  -- a play that began where nothing had happened, from a state that is seen by a world
  module _ (of : Pin Seen M → Type 0) (capacity : ℕ) (e : Editing N M) (f : Worlded N M → State) (w v : Worlded N M) (cs : List Command) (is : w ≡ begun capacity e)
      (done : HasDone w e.here.revision capacity no_work → HasDone v e.here.revision capacity (work_of t capacity cs (f w))) where
    pub work-done : HasDone v e.here.revision capacity (work_of t capacity cs (f (begun capacity e)))
    work-done =
        subst (λ (x : Worlded N M). HasDone v e.here.revision capacity (work_of t capacity cs (f x))) is
        (done (subst (λ (x : Worlded N M). HasDone x e.here.revision capacity no_work) (sym is) (begun-done capacity e)))

    pub desk-ended : (f (begun capacity e)).editor.now ≡ e.here.revision → IsWorld t as_seen of v → IsDesk as_seen t v.desk → IsWhole v →
        (played t cs (f w)).state.editor.now ≡ v.editor.here.revision → IsDeskOf t capacity cs (f (begun capacity e)) v.desk
    desk-ended here world desk whole last =
        desk-of of v capacity cs (f (begun capacity e)) world desk whole
        (ap (λ (x : Worlded N M). (played t cs (f x)).state.editor.now) (sym is) ∙ last)
        (subst (λ (r : Seen). HasDone v r capacity (work_of t capacity cs (f (begun capacity e)))) (sym here) work-done)
