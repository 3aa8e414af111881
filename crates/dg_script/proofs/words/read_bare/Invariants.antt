use Rattle.std.proofs.Common.{◌≡◌, ◌≤◌, length, string_bytes}
use denote.Text.{Utf8}
use denote.Shadow.{shadow}
use Rattle.std.specs.Str.{chars}
use Rattle.dg_script.specs.Words.{behind, bare_in}
use Rattle.dg_script.proofs.WordReading.{joined}
use Rattle.dg_script.proofs.words.read_bare.Given as goal

abbrev pub invariant-loop-next : goal.invariant-loop-next
invariant-loop-next l =
    shadow (Utf8 l.rest) × (joined (string_bytes l.text) (bare_in (chars l.rest)) ≡ behind l.fn.first (bare_in (chars l.after)))
    × (length l.rest ≤ length l.after)

abbrev pub decreases-loop-next : goal.decreases-loop-next
decreases-loop-next l = length l.rest
