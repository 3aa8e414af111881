use Rattle.std.proofs.Common.{◌≡◌, drop}
use Rattle.dg_kinds_go.specs.Objects.{has_equals}
use Rattle.dg_kinds_go.proofs.EqualTexts.{repeats, seen_in, texts_of}
use Rattle.dg_kinds_go.proofs.objects.has_equals.Given as goal

abbrev pub invariant-loop-text : goal.invariant-loop-text
invariant-loop-text l = repeats (seen_in l.seen) (texts_of (drop l.text-index l.texts)) ≡ has_equals (texts_of l.texts)
