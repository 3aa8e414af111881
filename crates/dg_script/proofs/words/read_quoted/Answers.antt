use Rattle.std.proofs.Common.{◌≡◌, ◌<◌, ◌≤◌, ◌∷◌, ◌++◌, ◌∙◌, ap, sym, rules, arith, length, string_bytes, encode_utf8}
use Rattle.std.specs.Str.{chars}
use Rattle.dg_script.specs.Words.{quoted_in, closed_in, words_in, behind}
use Rattle.dg_script.specs.Parts.{text_before}
use Rattle.dg_script.proofs.WordReading.{joined, joined_push, quoted_end}
use Rattle.dg_script.proofs.words.read_quoted.Goals as goal

pub loop-next-preserved : goal.loop-next-preserved
loop-next-preserved c =
    let step : chars c.loop-next.rest.now ≡ c.in-Some.next ∷ chars c.in-Some.later.now = search rules in
    let shorter : length c.in-Some.later.now < length c.loop-next.rest.now = search rules in
    let left : length c.in-Some-read_one.behind.now ≤ length c.in-Some.later.now = search rules in
    let one : quoted_in (c.in-Some.next ∷ chars c.in-Some.later.now) ≡ behind c.in-Some-read_one.written (quoted_in (chars c.in-Some-read_one.behind.now)) = search rules in
    let text = string_bytes c.loop-next.text in
    let pushed : string_bytes c.push.new.self ≡ string_bytes c.loop-next.text ++ encode_utf8 c.in-Some-read_one.written = search rules in (
      search rules,
      ap (λ t. joined t (quoted_in (chars c.in-Some-read_one.behind.now))) pushed
          ∙ joined_push text c.in-Some-read_one.written (quoted_in (chars c.in-Some-read_one.behind.now))
          ∙ sym (ap (joined text) one) ∙ sym (ap (λ cs. joined text (quoted_in cs)) step) ∙ c.loop-next.invariant.1,
      omega (arith, c.loop-next.invariant.2),
    )

pub returns-then-next-eq34 : goal.returns-then-next-eq34
returns-then-next-eq34 c =
    let step : chars c.loop-next.rest.now ≡ c.in-Some.next ∷ chars c.in-Some.later.now = search rules in
    let shorter : length c.in-Some.later.now < length c.loop-next.rest.now = search rules in
    let closed : closed_in (chars c.in-Some.later.now) ≡ words_in (chars c.in-Some.later.now) = search rules in
    let text = string_bytes c.loop-next.text in (
      sym c.loop-next.invariant.1 ∙ ap (λ cs. joined text (quoted_in cs)) step
          ∙ quoted_end text c.in-Some.next (chars c.in-Some.later.now) c.if-next-eq34.true closed
          ∙ ap (λ t. text_before t (words_in (chars c.in-Some.later.now))) (sym c.of.ensures),
      omega (arith, c.loop-next.invariant.2),
    )
