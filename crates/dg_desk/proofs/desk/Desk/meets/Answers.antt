use Rattle.std.proofs.Common.{sym, ap, ◌∙◌}
use Rattle.dg_line.specs.Tickets.{Pin}
use Rattle.dg_desk.proofs.desk.Desk.meets.Goals as goal

pub agrees-requires-clause-a_of : goal.agrees-requires-clause-a_of
agrees-requires-clause-a_of g c = c.requires.desk c.now-now.result.now c.now-now.ensures.listed

pub returns-then-index-clause-yes : goal.returns-then-index-clause-yes
returns-then-index-clause-yes g c yes_ = ap (λ (p : Pin _ _). p.index) (sym c.now-now.ensures.now) ∙ sym c.index.ensures ∙ c.if-index.true ∙ c.index-2.ensures

pub returns-then-index-clause-revision : goal.returns-then-index-clause-revision
returns-then-index-clause-revision g c yes_ = ap (λ (p : Pin _ _). p.revision) (sym c.now-now.ensures.now) ∙ c.agrees.ensures

pub returns-else-index-clause-no : goal.returns-else-index-clause-no
returns-else-index-clause-no g c no_ same =
    c.if-index.false (c.index.ensures ∙ ap (λ (p : Pin _ _). p.index) c.now-now.ensures.now ∙ same ∙ sym c.index-2.ensures)
