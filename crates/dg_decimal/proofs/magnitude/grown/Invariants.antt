use Rattle.std.proofs.Common.{◌≡◌, ◌≤◌, min, drop}
use Rattle.std.specs.Str.Parse.{digits_value_after, AllDigits}
use Rattle.dg_decimal.specs.declared.magnitude.TheConstants.{CAP}
use Rattle.dg_decimal.proofs.magnitude.grown.Given as goal

abbrev pub invariant-loop-digit : goal.invariant-loop-digit
invariant-loop-digit l = record {
  small : l.value ≤ CAP;
  digits : AllDigits 10 (drop l.digit-index l.digits);
  same : min (digits_value_after 10 l.value (drop l.digit-index l.digits)) CAP ≡ min (digits_value_after 10 l.fn.value l.digits) CAP;
}
