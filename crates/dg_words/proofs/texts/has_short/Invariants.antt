use Rattle.std.proofs.Common.{◌≡◌, drop, map, string_bytes}
use Rattle.dg_words.specs.Grammar.{has_short}
use Rattle.dg_words.proofs.texts.has_short.Given as goal

abbrev pub invariant-loop-word : goal.invariant-loop-word
invariant-loop-word l = has_short (map string_bytes (drop l.word-index l.words)) ≡ has_short (map string_bytes l.words)
