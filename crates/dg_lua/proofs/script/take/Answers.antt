use Rattle.std.proofs.Common.{◌≡◌, ◌++◌, ◌∙◌, ap, sym, false, is_some}
use Rattle.dg_base.specs.Names.{label_of, interned}
use Rattle.dg_lua.specs.Script.{in_front, first_ones, is_among}
use Rattle.dg_lua.proofs.FirstOnes.{takes, not_among}
use Rattle.dg_lua.proofs.script.take.Goals as goal

pub returns : goal.returns
returns c more =
    let ids = c.args.ids.now in
    let one = c.in-Some.one in
    let apart : is_among c.args.ids.now c.in-Some.one.id ≡ false =
    not_among ids one.id (ap (λ t. is_some (label_of ids t)) (sym c.as_str.ensures) ∙ ap is_some (sym c.find.ensures) ∙ sym c.is_some.ensures ∙ c.if-is_some.false) in
    takes ids c.intern.new.self c.args.found.now.items c.push.new.self.items one more apart
    (c.in_ok-intern.ensures.names ∙ ap (interned ids) c.as_str-2.ensures) c.in_ok-push.ensures.items
    ∙ ap (λ d. c.args.found.now.items ++ first_ones ids (in_front d more)) (sym c.in-Some.is ∙ c.in_ok-one.ensures)
