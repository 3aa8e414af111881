use Rattle.std.proofs.Common.{◌≡◌, ◌<◌, ◌^◌, drop}
use Rattle.dg_script.specs.Forms.{number_from}
use Rattle.dg_script.proofs.forms.number_of.Given as goal

abbrev pub invariant-loop-digit : goal.invariant-loop-digit
invariant-loop-digit l =
    (number_from l.number (drop l.digit-index l.digits) ≡ number_from 0 l.digits) × (l.number < 10 ^ l.digit-index)
