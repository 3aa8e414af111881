use Rattle.std.proofs.Common.{◌≡◌, ◌+◌, [], ◌∷◌, ◌++◌, length-drop, sym, ◌∙◌, arith, Some, None}
use Rattle.dg_ptext.specs.Token.{unit}
use Rattle.dg_ptext.proofs.Strings.{body-skipped, body-quote, body-line_feed, body-more, body-end, rest_from}
use Rattle.dg_ptext.proofs.escapes.string_body.Goals as goal

pub returns-then-first-quote-clause-value : goal.returns-then-first-quote-clause-value
returns-then-first-quote-clause-value c =
    sym (body-quote c.args.quote c.loop-first.made.items c.loop-first.taken c.in-Some.first.now c.in-Some.behind.now c.loop-first.rest.now
    (c.in-Some.ensures.cases.0) c.if-first-quote.true)
    ∙ c.loop-first.invariant.same

pub returns-then-first-eq10-clause-value : goal.returns-then-first-eq10-clause-value
returns-then-first-eq10-clause-value c =
    sym (body-line_feed c.args.quote c.loop-first.made.items c.loop-first.taken c.in-Some.first.now c.in-Some.behind.now c.loop-first.rest.now
    (c.in-Some.ensures.cases.0) c.if-first-quote.false c.if-first-eq10.true)
    ∙ c.loop-first.invariant.same

pub returns-in_default-read_unit-clause-value : goal.returns-in_default-read_unit-clause-value
returns-in_default-read_unit-clause-value c =
    let none : unit c.in-Some.first.now c.in-Some.behind.now ≡ None = sym c.read_unit.ensures.value ∙ c.in_default-read_unit.is in
    sym (body-more c.args.quote c.loop-first.made.items c.loop-first.taken c.in-Some.first.now c.in-Some.behind.now c.loop-first.rest.now None
    (c.in-Some.ensures.cases.0) c.if-first-quote.false c.if-first-eq10.false none)
    ∙ c.loop-first.invariant.same

pub loop-first-preserved : goal.loop-first-preserved
loop-first-preserved c =
    let some : unit c.in-Some.first.now c.in-Some.behind.now ≡ Some c.in-Some-read_unit.unit =
    sym c.read_unit.ensures.value ∙ c.in-Some-read_unit.is in
    let more = body-more c.args.quote c.loop-first.made.items c.loop-first.taken c.in-Some.first.now c.in-Some.behind.now c.loop-first.rest.now
    (Some c.in-Some-read_unit.unit) (c.in-Some.ensures.cases.0) c.if-first-quote.false c.if-first-eq10.false some in
    let skip = body-skipped c.args.quote (c.loop-first.made.items ++ c.in-Some-read_unit.unit.value ∷ []) (c.loop-first.taken + 1)
    c.in-Some-read_unit.unit.taken c.in-Some.behind.now in
    let rest = rest_from c.in-Some-read_unit.unit.taken c.in-Some.behind.now in
    let items = c.in_ok-push.ensures.items in
    let taken : c.loop-first.taken + (1 + c.in-Some-read_unit.unit.taken) ≡ c.loop-first.taken + 1 + c.in-Some-read_unit.unit.taken = omega arith in
    record {
      same = rw (rest, taken, items) (sym skip ∙ (sym more ∙ c.loop-first.invariant.same));
      within = rw rest (omega (arith, length-drop c.in-Some-read_unit.unit.taken c.in-Some.behind.now, c.in-Some.ensures.cases.1, c.in-Some-read_unit.ensures.within, c.loop-first.invariant.within));
    }

pub returns-clause-value : goal.returns-clause-value
returns-clause-value c =
    sym (body-end c.args.quote c.loop-first.made.items c.loop-first.taken c.loop-first.rest.now c.in_default.ensures.cases)
    ∙ c.loop-first.invariant.same
