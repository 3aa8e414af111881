use Rattle.std.proofs.Common.{◌≡◌, ℕ, zero, suc, ◌+◌, ◌-◌, ◌/◌, ◌%◌, ◌^◌, ◌<◌, List, [], ◌∷◌, ◌++◌, length, refl, sym, ◌∙◌, ap, arith, append_assoc, append-nil, length-append}
use Rattle.std.proofs.Math.Nat.{mod-lt, one-le-pow}
use Rattle.dg_decimal.specs.Canonical.{without_zeros, padded_digits, fraction_digits}
use Rattle.dg_decimal.proofs.Trimmed.{without_zeros-padded, without_zeros-padded_zero}
use Rattle.dg_decimal.proofs.printing.push_digits.Goals as goal

-- one digit more is pushed
step : (places left unit : ℕ) (bytes new full : List ℕ) → 0 < left → left < 10 ^ suc places → unit ≡ 10 ^ places
    → new ≡ bytes ++ (48 + left / unit) ∷ [] → bytes ++ without_zeros (padded_digits (suc places) left) ≡ full
    → new ++ without_zeros (padded_digits places (left % unit)) ≡ full
step places left unit bytes new full some below is pushed e =
    rw (pushed, is, append_assoc) (ap (λ (ds : List ℕ). bytes ++ ds) (sym (without_zeros-padded places left some below)) ∙ e)

-- a place is left while something is
some_place : (places left : ℕ) → 0 < left → left < 10 ^ places → 0 < places
some_place zero left some below = absurd (omega (arith, some, below))
some_place (suc places) left some below = omega arith

pub loop-left-init : goal.loop-left-init
unfolding fraction_digits
loop-left-init c = record { below = omega arith; few = omega arith; room = c.requires.room; pushed = refl }

pub loop-left-preserved : goal.loop-left-preserved
loop-left-preserved c =
    let l = c.loop-left in
    let some = some_place l.places l.left (omega arith) l.invariant.below in
    let e : l.places ≡ suc (l.places - 1) = omega (arith, some) in
    let below : l.left < 10 ^ suc (l.places - 1) = rw (← e) l.invariant.below in
    let pushed = rw e at l.invariant.pushed in
    let rest : l.left % 10 ^ (l.places - 1) < 10 ^ (l.places - 1) = mod-lt l.left (one-le-pow (l.places - 1) 10 (omega arith)) in
    record {
      below = rw c.pow-unit.ensures rest;
      few = omega arith;
      room = omega (arith, ap length c.push_digit.ensures, length-append l.text.bytes ((48 + l.left / c.pow-unit.result) ∷ []), some);
      pushed = step (l.places - 1) l.left c.pow-unit.result l.text.bytes c.push_digit.new.text.bytes (c.args.text.now.bytes ++ fraction_digits c.args.rest)
          (omega arith) below c.pow-unit.ensures c.push_digit.ensures pushed;
    }

pub returns : goal.returns
returns c =
    let l = c.loop-left in
    let none : l.left ≡ 0 = omega arith in
    sym (append-nil l.text.bytes) ∙ (ap (λ (ds : List ℕ). l.text.bytes ++ ds) (sym (ap (λ (n : ℕ). without_zeros (padded_digits l.places n)) none ∙ without_zeros-padded_zero l.places))
    ∙ l.invariant.pushed)
