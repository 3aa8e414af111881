use Rattle.std.proofs.Common.{◌/◌, length, ap, arith}
use Rattle.std.proofs.lemmas.Fmt.{length-decimal-le}
use Rattle.dg_decimal.proofs.printing.push_magnitude.Goals as goal

pub push_fraction-requires-clause-room : goal.push_fraction-requires-clause-room
push_fraction-requires-clause-room c =
    let whole = length-decimal-le 10 (c.args.magnitude / 1000000000) (omega arith) (omega arith) (omega arith) in
    omega (arith, whole, c.push_str.ensures.len, ap length c.format.ensures.text)
