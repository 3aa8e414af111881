use Rattle.std.proofs.Common.{◌≡◌, length}
use denote.Text.{Utf8}
use denote.Shadow.{shadow}
use Rattle.std.specs.Str.{chars}
use Rattle.dg_script.specs.Words.{words_in}
use Rattle.dg_script.proofs.WordReading.{ahead}
use Rattle.dg_script.proofs.words.words_of.Given as goal

abbrev pub invariant-loop-first : goal.invariant-loop-first
invariant-loop-first l =
    shadow (Utf8 l.rest) × (ahead l.words.items (words_in (chars l.rest)) ≡ words_in (chars l.line))

abbrev pub decreases-loop-first : goal.decreases-loop-first
decreases-loop-first l = length l.rest
