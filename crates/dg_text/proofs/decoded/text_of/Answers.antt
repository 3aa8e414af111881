use Rattle.std.proofs.Common.{◌≡◌, ◌∙◌, Some, ap, rules}
use Rattle.std.specs.Str.{IsUtf8}
use Rattle.dg_text.proofs.Utf8Tests.{is_text, no_text}
use Rattle.dg_text.proofs.decoded.text_of.Goals as goal

pub returns-in-Ok : goal.returns-in-Ok
returns-in-Ok c =
    let same : c.in-Ok.text.now ≡ c.args.bytes.now = search rules in
    let utf8 : IsUtf8 c.args.bytes.now = search rules in
    ap Some same ∙ is_text c.args.bytes.now utf8

pub returns-in-Err : goal.returns-in-Err
returns-in-Err c =
    let not : ¬ (IsUtf8 c.args.bytes.now) = search rules in
    no_text c.args.bytes.now not
