use Rattle.std.proofs.Common.{◌≡◌, ◌+◌, ◌^◌, ◌≤◌, ◌<◌, ◌++◌}
use Rattle.arrayvec.specs.ArrayString.{array_string_len}
use Rattle.dg_decimal.specs.Canonical.{without_zeros, padded_digits, fraction_digits}
use Rattle.dg_decimal.proofs.printing.push_digits.Given as goal

abbrev pub invariant-loop-left : goal.invariant-loop-left
invariant-loop-left l = record {
  below : l.left < 10 ^ l.places;
  few : l.places ≤ 9;
  room : array_string_len l.text + l.places ≤ 21;
  pushed : l.text.bytes ++ without_zeros (padded_digits l.places l.left) ≡ l.fn.text.bytes ++ fraction_digits l.fn.rest;
}

abbrev pub decreases-loop-left : goal.decreases-loop-left
decreases-loop-left l = l.places
