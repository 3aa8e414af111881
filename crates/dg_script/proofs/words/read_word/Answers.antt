use Rattle.std.proofs.Common.{◌≡◌, ◌≤◌, rules, length}
use Rattle.std.specs.Str.{chars}
use Rattle.dg_script.specs.Words.{behind, bare_in, quoted_in, words_in}
use Rattle.dg_script.specs.Parts.{text_before}
use Rattle.dg_script.proofs.WordReading.{word_bare, word_quoted}
use Rattle.dg_script.proofs.words.read_word.Goals as goal

pub returns-then-first-ne34 : goal.returns-then-first-ne34
returns-then-first-ne34 c =
    let read : behind c.args.first (bare_in (chars c.args.after.now)) ≡ text_before c.in_ok-text.text (words_in (chars c.in_ok-text.rest.now)) = search rules in
    let left : length c.in_ok-text.rest.now ≤ length c.args.after.now = search rules in
    (word_bare c.args.first (chars c.args.after.now) c.in_ok-text.text _ c.if-first-ne34.true read, left)

pub returns-in-Some : goal.returns-in-Some
returns-in-Some c =
    let read : quoted_in (chars c.args.after.now) ≡ text_before c.in-Some.text (words_in (chars c.in-Some.rest.now)) = search rules in
    let left : length c.in-Some.rest.now ≤ length c.args.after.now = search rules in
    (word_quoted c.args.first (chars c.args.after.now) c.in-Some.text _ c.if-first-ne34.false read, left)
