-- What a play in the session that puts jobs comes to.
use Rattle.std.proofs.Common.{◌≡◌, ℕ, ◌+◌, List, [], ◌∷◌, map, count_by, Result, Ok, refl, sym, ap, ◌∙◌, subst, arith}
use Rattle.std.specs.Prelude.{IfOk}
use Rattle.dg_asks.specs.Asks.{Ask, asking_ask}
use Rattle.dg_caller.specs.Calls.{HasDone}
use Rattle.dg_crew.specs.Plays.{IsPlayOf, Session, shows}
use Rattle.dg_kinds_coll.specs.Defold.{defold_tables}
use Rattle.dg_line.specs.Revisions.{Seen}
use Rattle.dg_play.specs.declared.reply.Line.{Line}
use Rattle.dg_play.specs.declared.state.State.{State as CodeState}
use Rattle.dg_play.specs.Desk.{answers_in, is_evict}
use Rattle.dg_play.specs.Play.{Played, State, played}
use Rattle.dg_play.specs.Seen.{line_of, state_by}
use Rattle.dg_play.specs.Work.{no_work, worked_on}
use Rattle.dg_play.proofs.Asked.{worked-asks, worked-evictions}
use Rattle.dg_room.specs.Made.{Passed, none_made, passed}
use Rattle.dg_script.specs.declared.command.Command.{Command}

-- what holds where there is an answer
pub when_ok : {X E : Type 0} (r : Result X E) (P : X → Type 0) (x : X) → r ≡ Ok x → IfOk r P → P x
when_ok r P x is h = subst (λ q. IfOk q P) is h

module _ {R P Q N M : Type 0} {cs : List Command} {s v : CodeState (Session R P Q N M)} {ls : List (Line Ask)} (b : State) (begun : state_by shows s ≡ b) (is : IsPlayOf cs s ls v) where
  same : played defold_tables cs b ≡ record { lines = map line_of ls; state = state_by shows v }
  same = ap (played defold_tables cs) (sym begun) ∙ is.lines

  pub lines : (played defold_tables cs b).lines ≡ map line_of ls
  lines = ap (λ (p : Played). p.lines) same

  pub names : (played defold_tables cs b).state.names ≡ v.names
  names = ap (λ (p : Played). p.state.names) same

  pub now : (played defold_tables cs b).state.editor.now ≡ v.session.editor.here.revision
  now = ap (λ (p : Played). p.state.editor.now) same

  module _ (fresh : s.session.pass ≡ passed 0 none_made) (none : s.session.asked.items ≡ []) where
    abbrev first : Seen
    first = s.session.editor.here.revision

    begins : HasDone (map asking_ask s.session.asked.items) s.session.pass first first no_work
    begins = record {
      asks = ap (map asking_ask) none;
      evictions = ap (λ (p : Passed). p.made.evictions) fresh;
      follows = let no_follow = ap (λ (p : Passed). p.made.follows) fresh in omega (arith, no_follow);
    }

    did : HasDone (map asking_ask v.session.asked.items) v.session.pass v.session.editor.here.revision first (worked_on defold_tables 0 cs b no_work)
    did = subst (λ x. HasDone (map asking_ask v.session.asked.items) v.session.pass v.session.editor.here.revision first (worked_on defold_tables 0 cs x no_work)) begun (is.work first 0 no_work begins)

    pub asked : map asking_ask v.session.asked.items ≡ answers_in (played defold_tables cs b).lines
    asked = did.asks ∙ worked-asks defold_tables 0 cs b no_work

    pub evictions : v.session.pass.made.evictions ≡ count_by (λ (c : Command). is_evict c.act) cs
    evictions = let did_evict = did.evictions in let work = worked-evictions defold_tables 0 cs b no_work in omega (arith, did_evict, work)

    pub follows : s.session.editor.here.revision.number + v.session.pass.made.follows ≡ v.session.editor.here.revision.number
    follows = did.follows
