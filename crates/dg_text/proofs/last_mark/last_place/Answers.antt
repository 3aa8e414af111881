use Rattle.std.proofs.Common.{◌≡◌, ◌+◌, ◌-◌, ◌<◌, ◌∙◌, None, true, ap, rules, arith, length, get_or, drop}
use Rattle.dg_text.specs.LastMark.{is_mark, split_at_last}
use Rattle.dg_text.proofs.LastMarks.{mark_at, mark_is_ascii}
use Rattle.dg_text.proofs.last_mark.last_place.Goals as goal

pub returns-then-is_mark : goal.returns-then-is_mark
returns-then-is_mark c =
    let text = c.args.text.now in
    let marks = c.args.marks.now in
    let i = c.loop-end.end - 1 in
    let back : c.loop-end.end - 1 + 1 ≡ c.loop-end.end = omega arith in
    let lt : c.loop-end.end - 1 < length c.args.text.now = omega (arith, c.loop-end.invariant.1) in
    let mark : is_mark c.args.marks.now (get_or c.args.text.now (c.loop-end.end - 1) 0) ≡ true = search rules in
    let none : split_at_last c.args.marks.now (drop (c.loop-end.end - 1 + 1) c.args.text.now) ≡ None =
    ap (λ n. split_at_last c.args.marks.now (drop n c.args.text.now)) back ∙ c.loop-end.invariant.0 in
    (lt, mark_is_ascii marks (get_or text i 0) c.requires mark, mark_at marks text i lt mark none)
