use Rattle.std.proofs.Common.{◌∙◌, sym}
use Rattle.dg_ptext.specs.Token.{tokens}
use Rattle.dg_ptext.specs.Reading.{run, start, end}
use Rattle.dg_ptext.proofs.Refusals.{gives_error, gives_same}
use Rattle.dg_ptext.proofs.Strings.{rest_from}
use Rattle.dg_ptext.proofs.Tokens.{refused_piece, told_piece, run-end}
use Rattle.dg_ptext.proofs.reading.read_text.Goals as goal

pub returns-in_err-state : goal.returns-in_err-state
returns-in_err-state c =
    let whole = run start (tokens 0 1 c.args.bytes.now) in
    gives_error c.from_residual-in_err-state.result c.in_err-state.field-0.0 whole c.from_residual-in_err-state.ensures.1
    (refused_piece c.in_err-state.field-0.0 c.loop-first.state c.loop-first.line c.in-Some.first.now c.in-Some.behind.now c.loop-first.rest.now
    c.in_ok-piece.piece whole c.in-Some.ensures.cases.0 c.in_ok-piece.ensures.value c.loop-first.invariant c.in_err-state.ensures)

pub loop-first-preserved : goal.loop-first-preserved
loop-first-preserved c =
    let whole = run start (tokens 0 1 c.args.bytes.now) in
    rw (rest_from c.in_ok-piece.piece.taken c.in-Some.behind.now)
    (told_piece c.loop-first.state c.in_ok-state.state c.loop-first.line c.line_behind-line.result c.in-Some.first.now c.in-Some.behind.now
    c.loop-first.rest.now c.in_ok-piece.piece whole c.in-Some.ensures.cases.0 c.in_ok-piece.ensures.value c.line_behind-line.ensures
    c.loop-first.invariant c.in_ok-state.ensures)

pub returns : goal.returns
returns c =
    gives_same c.end.result (end c.loop-first.state) (run start (tokens 0 1 c.args.bytes.now))
    (sym (run-end c.loop-first.state c.loop-first.line c.loop-first.rest.now c.in_default.ensures.cases) ∙ c.loop-first.invariant) c.end.ensures
