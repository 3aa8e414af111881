use Rattle.std.proofs.Common.{◌≡◌, ◌<◌, ◌∷◌, ◌++◌, ◌∙◌, true, false, ap, sym, rules, arith, length, string_bytes, encode_utf8}
use Rattle.std.specs.Str.{chars}
use Rattle.dg_script.specs.Words.{is_blank, bare_in, words_in}
use Rattle.dg_script.specs.Parts.{text_before}
use Rattle.dg_script.proofs.WordReading.{joined, bare_end, bare_more}
use Rattle.dg_script.proofs.words.read_bare.Goals as goal

pub returns-then-is_blank : goal.returns-then-is_blank
returns-then-is_blank c =
    let step : chars c.loop-next.rest.now ≡ c.in-Some.next ∷ chars c.in-Some.later.now = search rules in
    let blank : is_blank c.in-Some.next ≡ true = search rules in
    let text = string_bytes c.loop-next.text in
    let end = bare_end text c.in-Some.next (chars c.in-Some.later.now) blank in (
      sym c.loop-next.invariant.1 ∙ ap (λ cs. joined text (bare_in cs)) step ∙ end ∙ ap (λ cs. text_before text (words_in cs)) (sym step)
          ∙ ap (λ t. text_before t (words_in (chars c.loop-next.rest.now))) (sym c.of.ensures),
      c.loop-next.invariant.2,
    )

pub loop-next-preserved : goal.loop-next-preserved
loop-next-preserved c =
    let step : chars c.loop-next.rest.now ≡ c.in-Some.next ∷ chars c.in-Some.later.now = search rules in
    let shorter : length c.in-Some.later.now < length c.loop-next.rest.now = search rules in
    let word : is_blank c.in-Some.next ≡ false = search rules in
    let pushed : string_bytes c.push-in-Some.new.self ≡ string_bytes c.loop-next.text ++ encode_utf8 c.in-Some.next = search rules in (
      search rules,
      ap (λ t. joined t (bare_in (chars c.in-Some.later.now))) pushed
          ∙ sym (bare_more (string_bytes c.loop-next.text) c.in-Some.next (chars c.in-Some.later.now) word)
          ∙ sym (ap (λ cs. joined (string_bytes c.loop-next.text) (bare_in cs)) step) ∙ c.loop-next.invariant.1,
      omega (arith, c.loop-next.invariant.2),
    )
