use Rattle.std.proofs.Common.{◌≡◌, ◌≤◌, ◌+◌, List, IfOk, OnOk, subst}
use Rattle.dg_base.specs.Evaluation.{productions}
use Rattle.dg_cache.specs.declared.entry.Entry.{Entry}
use Rattle.dg_world.specs.Steps.{offer_of, walk_of}
use Rattle.dg_world.proofs.acts.evaluated_listed.Goals as goal

pub returns-clause-offer : goal.returns-clause-offer
returns-clause-offer g c =
    subst (λ (es : List Entry). IfOk c.evaluated.result (λ f. f.offer ≡ offer_of g.S.Schema.tables c.args.number c.args.ticket.now c.args.at (walk_of g.S.Schema.tables c.args.ticket.now.revision.graph es c.args.at)))
    (c.evaluated.ensures.listed c.requires.ticket) c.evaluated.ensures.offer

pub returns-clause-made : goal.returns-clause-made
returns-clause-made g c =
    subst (λ (es : List Entry). IfOk c.evaluated.result (λ f. f.made ≡ productions g.S.Schema.tables c.args.ticket.now.revision.graph (walk_of g.S.Schema.tables c.args.ticket.now.revision.graph es c.args.at).listed))
    (c.evaluated.ensures.listed c.requires.ticket) c.evaluated.ensures.made

pub returns-clause-steps : goal.returns-clause-steps
returns-clause-steps g c =
    subst
    (λ (es : List Entry). OnOk c.evaluated.result (c.evaluated.new.steps ≡ c.args.steps.now + productions g.S.Schema.tables c.args.ticket.now.revision.graph (walk_of g.S.Schema.tables c.args.ticket.now.revision.graph es c.args.at).listed))
    (c.evaluated.ensures.listed c.requires.ticket) c.evaluated.ensures.steps

pub returns-clause-most : goal.returns-clause-most
returns-clause-most g c =
    subst (λ (es : List Entry). c.evaluated.new.steps ≤ c.args.steps.now + productions g.S.Schema.tables c.args.ticket.now.revision.graph (walk_of g.S.Schema.tables c.args.ticket.now.revision.graph es c.args.at).listed)
    (c.evaluated.ensures.listed c.requires.ticket) c.evaluated.ensures.most
