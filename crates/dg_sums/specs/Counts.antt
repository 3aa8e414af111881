-- How many commands were done, and what was answered.
use Rattle.std.specs.Prelude.{ℕ, List, Bool, true, false, ◌&&◌, count_by, zip}
use Rattle.dg_base.specs.declared.answer.Answer.{Answer}
use Rattle.dg_base.specs.declared.answer.Answer.TheVariants as answer
use Rattle.dg_base.specs.Tables.{Tables}
use Rattle.dg_base.specs.Value.{value_at, is_bad, is_cycle}
use Rattle.dg_script.specs.declared.command.Command.{Command}
use Rattle.dg_script.specs.declared.command.Act.{Act}
use Rattle.dg_script.specs.declared.command.Act.TheVariants as act
use Rattle.dg_play.specs.Play.{Reply, Done, Answers, Line}
use Rattle.dg_sums.specs.declared.counts.Deed.{Deed}
use Rattle.dg_sums.specs.declared.counts.Deed.TheVariants as deed
use Rattle.dg_sums.specs.declared.counts.Outcome.{Outcome}
use Rattle.dg_sums.specs.declared.counts.Outcome.TheVariants as outcome

-- ---- transactions, undos and redos

-- whether a command is one: a step and a block are transactions
abbrev pub is_of : Deed → Act → Bool
is_of deed.Transaction (act.Step w) = true
is_of deed.Transaction (act.Block ws) = true
is_of deed.Undo act.Undo = true
is_of deed.Redo act.Redo = true
is_of _ _ = false

abbrev pub is_done : Reply → Bool
is_done Done = true
is_done _ = false

-- whether a command, which has this line, is one that was done: nothing refused it
abbrev pub is_deed : Deed → Command × Line → Bool
is_deed d turn = is_of d turn.0.act && is_done turn.1.reply

-- how many were done. Each command has one line, in the same order
abbrev pub deeds_in : Deed → List Command → List Line → ℕ
deeds_in d commands lines = count_by (is_deed d) (zip commands lines)

-- ---- questions

abbrev pub is_ask : Act → Bool
is_ask (act.Ask pin at) = true
is_ask _ = false

abbrev pub asks_in : List Command → ℕ
asks_in commands = count_by (λ (c : Command). is_ask c.act) commands

abbrev pub is_outcome : Outcome → Answer → Bool
is_outcome outcome.Good (answer.Good d) = true
is_outcome outcome.Good _ = false
is_outcome outcome.Bad a = is_bad a
is_outcome outcome.Cycle a = is_cycle a

-- whether a question is answered so, by plain evaluation at its revision; a build is no question
abbrev pub is_answered : Tables → Outcome → Reply → Bool
is_answered t o (Answers a) = is_outcome o (value_at t a.revision.graph a.at)
is_answered t o _ = false

abbrev pub answers_in : Tables → Outcome → List Line → ℕ
answers_in t o lines = count_by (λ (l : Line). is_answered t o l.reply) lines
