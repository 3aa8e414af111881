use Rattle.std.proofs.Common.{◌≡◌, ◌∷◌, ◌∙◌, ◌<◌, length, ap, rules, arith}
use Rattle.std.specs.Str.{chars}
use Rattle.dg_script.specs.Words.{octal_in}
use Rattle.dg_script.proofs.WordReading.{octal_read}
use Rattle.dg_script.proofs.words.read_octal.Goals as goal

pub returns-in-Some : goal.returns-in-Some
returns-in-Some c =
    let a = c.in_ok-second in
    let b = c.in_ok-third in
    let one : chars c.args.later.now ≡ a.second ∷ chars a.rest.now = search rules in
    let two : chars a.rest.now ≡ b.third ∷ chars b.rest.now = search rules in
    let shorter : length a.rest.now < length c.args.later.now = search rules in
    let shortest : length b.rest.now < length a.rest.now = search rules in
    (ap (octal_in c.args.first) (one ∙ ap (λ cs. a.second ∷ cs) two) ∙ octal_read _ _ _ _ c.in-Some.ensures, omega arith)
