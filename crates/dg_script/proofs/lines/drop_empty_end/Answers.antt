use Rattle.std.proofs.Common.{◌∙◌, ap, sym, map}
use Rattle.dg_script.proofs.LineEnds.{without_empty_end-empty, without_empty_end-kept}
use Rattle.dg_script.proofs.lines.drop_empty_end.Goals as goal

pub returns-then-not-is_empty : goal.returns-then-not-is_empty
returns-then-not-is_empty c =
    ap (map (λ l. l.now)) (c.push_reserved.ensures.items ∙ sym c.in-Some.ensures.items)
    ∙ sym (without_empty_end-kept (λ l. l.now) _ _ _ c.in-Some.ensures.items (sym c.is_empty.ensures ∙ c.if-not-is_empty.true))

pub returns-else-not-is_empty : goal.returns-else-not-is_empty
returns-else-not-is_empty c =
    sym (without_empty_end-empty (λ l. l.now) _ _ _ c.in-Some.ensures.items (sym c.is_empty.ensures ∙ c.if-not-is_empty.false))
