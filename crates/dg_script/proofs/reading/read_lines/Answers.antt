use Rattle.std.proofs.Common.{◌∙◌, ap, map, drop, ◌+◌}
use Rattle.dg_script.specs.Script.{rest_of}
use Rattle.dg_script.specs.Reader.{joined, line_of}
use Rattle.dg_script.proofs.Blocks.{goes_on, stops}
use Rattle.dg_script.proofs.reading.read_lines.Goals as goal

pub returns-in-Err : goal.returns-in-Err
returns-in-Err c =
    stops (λ l. l.now) c.args.lines.now c.loop-line.line-index c.loop-line.number _ c.loop-line.reader c.in-Err.refusal _
    c.loop-line-test.true c.in-Err.ensures c.loop-line.invariant

pub loop-line-preserved : goal.loop-line-preserved
loop-line-preserved c =
    ap (λ n. joined c.read.new.self (rest_of (map (λ l. l.now) (drop (c.loop-line.line-index + 1) c.args.lines.now)) n (line_of c.read.new.self.block)))
    c.saturating_add-number.ensures
    ∙ goes_on (λ l. l.now) c.args.lines.now c.loop-line.line-index c.loop-line.number _ c.loop-line.reader c.read.new.self _
    c.loop-line-test.true c.in-Ok.ensures c.loop-line.invariant
