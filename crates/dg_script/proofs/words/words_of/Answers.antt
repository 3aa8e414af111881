use Rattle.std.proofs.Common.{◌≡◌, ◌∷◌, [], ◌++◌, ◌∙◌, false, ap, sym, rules}
use Rattle.std.specs.Str.{chars}
use Rattle.dg_script.specs.Words.{is_blank, words_in}
use Rattle.dg_script.specs.Parts.{word_before, word_in}
use Rattle.dg_script.proofs.WordReading.{ahead, words_more}
use Rattle.dg_script.proofs.words.words_of.Goals as goal

pub loop-first-preserved : goal.loop-first-preserved
loop-first-preserved c =
    let step : chars c.loop-first.rest.now ≡ c.in-Some.first ∷ chars c.in-Some.after.now = search rules in
    let word : is_blank c.in-Some.first ≡ false = search rules in
    let read : word_in c.in-Some.first (chars c.in-Some.after.now) ≡ word_before c.in-Some-2.word (words_in (chars c.in-Some-2.behind.now)) = search rules in
    let pushed : c.push.new.self.items ≡ c.loop-first.words.items ++ c.in-Some-2.word ∷ [] = search rules in (
      search rules,
      ap (λ ws. ahead ws (words_in (chars c.in-Some-2.behind.now))) pushed
          ∙ sym (words_more c.loop-first.words.items c.in-Some-2.word c.in-Some.first (chars c.in-Some.after.now) _ word read)
          ∙ sym (ap (λ cs. ahead c.loop-first.words.items (words_in cs)) step) ∙ c.loop-first.invariant.1,
    )
