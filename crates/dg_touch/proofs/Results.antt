-- What holds of an answer where there is one.
use Rattle.std.proofs.Common.{ℕ, Result, Ok, Err}
use Rattle.std.specs.Prelude.{IfOk}
use Rattle.dg_base.specs.declared.step.TxCode.{TxCode}
use Rattle.dg_base.specs.Refusal.{and_then}
use Rattle.dg_base.specs.Progress.{Progress}
use Rattle.dg_base.specs.Transact.{at_step}

pub ok_both : {X C : Type 0} {P Q R : X → Type 0} (r : Result X C) → ((x : X) → P x → Q x → R x) → IfOk r P → IfOk r Q → IfOk r R
ok_both (Ok x) f p q = f x p q
ok_both (Err c) f p q = tt

pub and_then-ok : {X Y C : Type 0} {P : X → Type 0} (Q : Y → Type 0) (r : Result X C) (f : X → Result Y C) → IfOk r P → ((x : X) → P x → IfOk (f x) Q) →
    IfOk (and_then r f) Q
and_then-ok Q (Ok x) f h next = next x h
and_then-ok Q (Err c) f h next = tt

pub at_step-ok : (P : Progress → Type 0) (number : ℕ) (r : Result Progress TxCode) → IfOk r P → IfOk (at_step number r) P
at_step-ok P number (Ok p) h = h
at_step-ok P number (Err c) h = tt
