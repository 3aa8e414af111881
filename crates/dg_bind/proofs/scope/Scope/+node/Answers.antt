use Rattle.std.proofs.Common.{◌<◌, ◌∙◌, Some, None, ap, sym, length, rules}
use Rattle.dg_bind.proofs.JoinedWords.{left-shorter, parts_there}
use Rattle.dg_bind.proofs.scope.Scope.+node.Goals as goal

pub node-requires : goal.node-requires
node-requires t c =
    let shorter : length c.in-Some-split_at_last.left.now < length c.args.word.now =
    left-shorter c.args.word.now (record { before = c.in-Some-split_at_last.left.now; mark = c.in-Some-split_at_last.field-0-1; behind = c.in-Some-split_at_last.right.now })
    (sym c.in-Some-split_at_last.ensures) in
    (search (rules, shorter), tt)

pub returns-in_default-3 : goal.returns-in_default-3
returns-in_default-3 t c =
    sym (
    parts_there c.args.self.now c.args.word.now c.in-Some-split_at_last.left.now c.in-Some-split_at_last.field-0-1 c.in-Some-split_at_last.right.now (Some c.in-Some-2.root) None
    (sym c.in_ok-whole.ensures ∙ c.in_default.is) (sym c.in-Some-split_at_last.ensures)
    (sym c.in_ok-root.ensures ∙ c.in-Some-2.is) (sym c.in_ok-original.ensures ∙ c.in_default-3.is))

pub returns : goal.returns
returns t c =
    ap Some c.in_ok-joined.ensures
    ∙ sym (
    parts_there c.args.self.now c.args.word.now c.in-Some-split_at_last.left.now c.in-Some-split_at_last.field-0-1 c.in-Some-split_at_last.right.now (Some c.in-Some-2.root) (Some c.in-Some-3.original)
    (sym c.in_ok-whole.ensures ∙ c.in_default.is) (sym c.in-Some-split_at_last.ensures)
    (sym c.in_ok-root.ensures ∙ c.in-Some-2.is) (sym c.in_ok-original.ensures ∙ c.in-Some-3.is))
