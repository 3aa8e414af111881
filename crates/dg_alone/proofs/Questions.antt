-- A question's events, together.
use Rattle.std.proofs.Common.{◌≡◌, ℕ, [], ◌∷◌, ◌++◌, Some, Result, Ok, Err, IfOk, OnOk, sym, ap, ◌∙◌, subst}
use Rattle.dg_base.specs.declared.answer.Answer.{Answer}
use Rattle.dg_base.specs.declared.ids.Endpoint.{Endpoint}
use Rattle.dg_base.specs.Tables.{Tables}
use Rattle.dg_line.specs.Revisions.{Seen}
use Rattle.dg_line.specs.Tickets.{Pin}
use Rattle.dg_desk.specs.declared.event.Published.{Published}
use Rattle.dg_desk.specs.declared.event.PublishEnd.TheVariants as publish_end
use Rattle.dg_desk.specs.Desks.{IsDesk, state_of}
use Rattle.dg_world.specs.Worlds.{Worlded, pin_at}
use Rattle.dg_world.specs.Steps.{IsAnswered, IsDropped, IsPinned, IsPublished, known_of, offer_of, walk_of}
use Rattle.dg_asks.specs.Asks.{Ask}
use Rattle.dg_asks.specs.Told.{as_seen}
use Rattle.dg_play.specs.Work.{after_ask}
use Rattle.dg_editor.specs.Seeing.{state_of as editor_of}
use Rattle.dg_alone.specs.Works.{IsAsked, IsWhole, IsWorked, view_of, work_in}
use Rattle.dg_alone.proofs.Working.{worked-same, whole-same, worked-asked, whole-asked}
use Rattle.dg_alone.proofs.Viewing.{view-same}
use Rattle.dg_alone.proofs.Pins.{at-push, same-live, same-after}

module _ {N M : Type 0} (t : Tables) where
  -- an evaluation at a live pin, and its publication
  pub asked-done : (w u v : Worlded N M) (p : Pin Seen M) (e : Endpoint) (held : Answer) (n : ℕ) (a : Published) → IsDesk as_seen t w.desk → (state_of as_seen w.desk).now ≡ w.editor.here →
      IsAnswered t as_seen w u p e held n → IsPublished as_seen u v (offer_of t n p e (walk_of t p.revision.graph (known_of as_seen w.desk p) e)) a → a.end ≡ publish_end.All → IsWhole w →
      IsAsked t p e w v
  asked-done w u v p e held n a desk here answered put all whole = record {
    editor = put.editor ∙ answered.editor;
    live = same-live w.pins v.pins (put.pins ∙ answered.pins);
    whole = whole-asked t w u v p e held n a desk here answered put all whole;
    worked = worked-asked t w u v p e held n a desk here answered put all;
  }

  pub pinned-live : (w u v : Worlded N M) (n : ℕ) (p : Pin Seen M) (e : Endpoint) → IsPinned w u n → IsAsked t p e u v → pin_at v.pins n ≡ Some w.editor.here
  pinned-live w u v n p e pinned asked =
      asked.live n ∙ ap (λ l. pin_at l n) pinned.pins ∙ ap (pin_at (w.pins ++ Some w.editor.here ∷ [])) pinned.number ∙ at-push w.pins (Some w.editor.here)

  -- one at the current revision, which is pinned for that alone
  pub asked-now : (w u v x : Worlded N M) (p : Pin Seen M) (e : Endpoint) (n : ℕ) → IsPinned w u n → IsAsked t p e u v → IsDropped v x n → IsAsked t p e w x
  asked-now w u v x p e n pinned asked dropped =
      let same = worked-same v x dropped.desk dropped.made in
      let begin = worked-same w u pinned.desk pinned.made in
      record {
        editor = dropped.editor ∙ asked.editor ∙ pinned.editor;
        live = same-after w.pins u.pins v.pins x.pins (Some w.editor.here) n pinned.number pinned.pins asked.live dropped.pins;
        whole = whole-same v x dropped.desk dropped.offers asked.whole;
        worked = record {
          work = same.work ∙ asked.worked.work
              ∙ (λ i. after_ask t (pinned.desk i).capacity (pinned.editor i).here.revision (record { revision = p.revision; at = e }) (begin.work i));
          opened = same.opened ∙ asked.worked.opened ∙ begin.opened;
          capacity = same.capacity ∙ asked.worked.capacity ∙ begin.capacity;
        };
      }

  -- so the work of a question is done, where it is answered
  pub asked-works : {E : Type 0} (w v : Worlded N M) (p : Pin Seen M) (e : Endpoint) (r : Result Ask E) → IfOk r (λ (a : Ask). a ≡ record { revision = p.revision; at = e }) → OnOk r (IsAsked t p e w v) →
      IfOk r (λ (a : Ask). IsWorked w v (after_ask t w.desk.capacity w.editor.here.revision a (work_in w)))
  asked-works w v p e (Ok a) is asked = subst (λ (q : Ask). IsWorked w v (after_ask t w.desk.capacity w.editor.here.revision q (work_in w))) (sym is) asked.worked
  asked-works w v p e (Err x) is asked = tt

  -- and what is shown is as it was
  pub asked-shows : {X E : Type 0} (w v : Worlded N M) (p : Pin Seen M) (e : Endpoint) (r : Result X E) → OnOk r (IsAsked t p e w v) → OnOk r (view_of v ≡ view_of w)
  asked-shows w v p e (Ok x) asked = view-same w v (ap editor_of asked.editor) asked.live
  asked-shows w v p e (Err x) asked = tt
