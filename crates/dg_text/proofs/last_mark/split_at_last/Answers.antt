use Rattle.std.proofs.Common.{◌≡◌, ◌<◌, ap, arith, length, get_or}
use Rattle.std.proofs.lemmas.Str.{IsCharBoundary-after_ascii}
use Rattle.dg_text.proofs.last_mark.split_at_last.Goals as goal

pub range_from-requires : goal.range_from-requires
range_from-requires c = λ _.
    let same : get_or c.as_bytes.result.now c.in-Some.at 0 ≡ get_or c.args.text.now c.in-Some.at 0 =
    ap (λ t. get_or t c.in-Some.at 0) c.as_bytes.ensures.value in
    let lt : c.in-Some.at < length c.args.text.now = omega (arith, c.in-Some.ensures.0, ap length c.as_bytes.ensures.value) in
    IsCharBoundary-after_ascii c.args.text.now c.in-Some.at c.utf8.text lt (omega (arith, same, c.in-Some.ensures.1))
