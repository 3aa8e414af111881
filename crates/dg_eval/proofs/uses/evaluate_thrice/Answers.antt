use Rattle.std.proofs.Common.{◌≡◌, ℕ, ◌+◌, [], refl, ◌∙◌, ap, arith}
use Rattle.dg_base.specs.declared.ids.Endpoint.{Endpoint}
use Rattle.dg_base.specs.Tables.{Tables}
use Rattle.dg_base.specs.Graph.{Graph}
use Rattle.dg_base.specs.First.{first_tables, total}
use Rattle.dg_base.specs.Worked.{at}
use Rattle.dg_base.specs.Evaluation.{nothing_evaluated, productions}
use Rattle.dg_eval.specs.Results.{newly_listed}
use Rattle.dg_eval.specs.Worked.{chained}
use Rattle.dg_eval.proofs.uses.evaluate_thrice.Goals as goal

abbrev count : Tables → Graph → Endpoint → ℕ
count t g e = productions t g (newly_listed t g [] nothing_evaluated e)

counted : (t : Tables) (g : Graph) (e o : Endpoint) → t ≡ first_tables → g ≡ chained → e ≡ o → count t g e ≡ count first_tables chained o
counted t g e o tables graph same = ap (λ (z : Tables). count z g e) tables ∙ ap (λ (z : Graph). count first_tables z e) graph ∙ ap (count first_tables chained) same

two : count first_tables chained (at 3 total) ≡ 2
two = refl

one : count first_tables chained (at 2 total) ≡ 1
one = refl

pub returns : goal.returns
returns g c =
    let t = g.S.Schema.tables in
    let graph = c.args.ticket.now.revision.graph in
    let a = c.in_ok-evaluate_alone.ensures.steps ∙ ap (λ n. c.args.steps.now + n) (counted t graph c.total_of.result (at 3 total) c.requires.tables c.requires.graph c.total_of.ensures ∙ two) in
    let b = c.in_ok-evaluate_alone-2.ensures.steps ∙ ap (λ n. c.evaluate_alone.new.steps + n) (counted t graph c.total_of-2.result (at 2 total) c.requires.tables c.requires.graph c.total_of-2.ensures ∙ one) in
    let d = c.in_ok-evaluate_alone-3.ensures.steps ∙ ap (λ n. c.evaluate_alone-2.new.steps + n) (counted t graph c.total_of-3.result (at 3 total) c.requires.tables c.requires.graph c.total_of-3.ensures ∙ two) in
    omega (arith, a, b, d)
