use Rattle.dg_kinds_coll.specs.Defold.{defold_tables}
use Rattle.dg_alone.proofs.Questions.{asked-shows, asked-works}
use Rattle.dg_alone.proofs.answering.ask.Goals as goal

pub returns-in_ok-ticket-in-None-clause-work : goal.returns-in_ok-ticket-in-None-clause-work
returns-in_ok-ticket-in-None-clause-work g c =
    asked-works defold_tables c.args.world.now c.answer_now.new.world c.in_ok-ticket-in-None.ticket c.args.at c.answer_now.result c.answer_now.ensures.answer c.answer_now.ensures.world

pub returns-in_ok-ticket-in-Some-pinned-clause-work : goal.returns-in_ok-ticket-in-Some-pinned-clause-work
returns-in_ok-ticket-in-Some-pinned-clause-work g c =
    asked-works defold_tables c.args.world.now c.answer_at.new.world c.in_ok-ticket-in-Some-pinned.ticket c.args.at c.answer_at.result c.answer_at.ensures.answer c.answer_at.ensures.world

pub returns-in_ok-ticket-in-None-clause-view : goal.returns-in_ok-ticket-in-None-clause-view
returns-in_ok-ticket-in-None-clause-view g c =
    asked-shows defold_tables c.args.world.now c.answer_now.new.world c.in_ok-ticket-in-None.ticket c.args.at c.answer_now.result c.answer_now.ensures.world

pub returns-in_ok-ticket-in-Some-pinned-clause-view : goal.returns-in_ok-ticket-in-Some-pinned-clause-view
returns-in_ok-ticket-in-Some-pinned-clause-view g c =
    asked-shows defold_tables c.args.world.now c.answer_at.new.world c.in_ok-ticket-in-Some-pinned.ticket c.args.at c.answer_at.result c.answer_at.ensures.world
