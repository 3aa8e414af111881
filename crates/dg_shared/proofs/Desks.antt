-- What is known of the desk at the end of a play beside workers.
use Rattle.std.proofs.Common.{◌≡◌, ℕ, ◌+◌, List, Result, Ok, Err, count_by, map, sym, ap, ◌∙◌, subst}
use Rattle.std.specs.Prelude.{IfOk}
use Rattle.dg_asks.specs.Asks.{Ask}
use Rattle.dg_asks.specs.Told.{AreTold, AreUnrefused, as_seen, evictions_told, follows_told}
use Rattle.dg_desk.specs.Desks.{Desked, IsDesk, state_of}
use Rattle.dg_kinds_coll.specs.Defold.{defold_tables}
use Rattle.dg_line.specs.Revisions.{Seen}
use Rattle.dg_play.specs.declared.ending.Ending.{Ending}
use Rattle.dg_play.specs.declared.reply.Line.{Line}
use Rattle.dg_play.specs.Desk.{IsSharedDeskOf, answers_in, is_evict}
use Rattle.dg_play.specs.Play.{State, played}
use Rattle.dg_play.specs.Seen.{line_of}
use Rattle.dg_script.specs.declared.command.Command.{Command}

-- the desk is that of the commands, where it is at their last revision and tells what they did
pub shared-desk : {M E : Type 0} (cs : List Command) (b : State) (now : Seen) (asks : List Ask) (follows evictions : ℕ) (r : Result (Ending (Desked Seen M)) E) →
    (played defold_tables cs b).state.editor.now ≡ now → asks ≡ answers_in (played defold_tables cs b).lines → evictions ≡ count_by (λ (c : Command). is_evict c.act) cs →
    b.editor.now.number + follows ≡ now.number →
    IfOk r (λ e. IsDesk as_seen defold_tables e.desk) → IfOk r (λ e. (state_of as_seen e.desk).now.revision ≡ now) → IfOk r (λ e. follows_told e.desk.history ≡ follows) →
    IfOk r (λ e. evictions_told e.desk.history ≡ evictions) → IfOk r (λ e. AreUnrefused e.desk.history) → IfOk r (λ e. AreTold e.desk.history asks) →
    IfOk r (λ e. IsSharedDeskOf defold_tables cs b e.desk)
shared-desk cs b now asks follows evictions (Ok e) last asked evicted followed coherent at told_follows told_evictions unrefused told = record {
  coherent = coherent;
  now = at ∙ sym last;
  follows = ap (λ n. b.editor.now.number + n) told_follows ∙ followed ∙ sym (ap (λ (s : Seen). s.number) last);
  evictions = told_evictions ∙ evicted;
  unrefused = unrefused;
  asks = subst (AreTold e.desk.history) asked told;
}
shared-desk cs b now asks follows evictions (Err x) last asked evicted followed coherent at told_follows told_evictions unrefused told = tt

-- and its lines are those of the commands, where they are the ones that were left
pub shared-lines : {M E : Type 0} (cs : List Command) (b : State) (ls : List (Line Ask)) (r : Result (Ending (Desked Seen M)) E) → (played defold_tables cs b).lines ≡ map line_of ls →
    IfOk r (λ e. e.lines.items ≡ ls) → IfOk r (λ e. (played defold_tables cs b).lines ≡ map line_of e.lines.items)
shared-lines cs b ls (Ok e) is same = is ∙ ap (map line_of) (sym same)
shared-lines cs b ls (Err x) is same = tt
