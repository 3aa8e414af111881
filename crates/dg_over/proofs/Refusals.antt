-- A refusal that is handed on says of one definition what it says of another that is refused for the same.
use Rattle.std.proofs.Common.{◌≡◌, Result, Ok, Err, sym, subst, true≢false}
use Rattle.std.specs.Result.{IsErr, IsErrAnd}
use Rattle.dg_base.specs.declared.refusal.Refusal.{Refusal}
use Rattle.dg_base.specs.declared.refusal.Refusal.TheVariants as refusal
use Rattle.dg_base.specs.Refusal.{Gives}

module _ {X Y Z W C : Type 0} (seen : X → Y) (seen' : Z → W) (given : Result Y C) (given' : Result W C) (same : (c : C) → given ≡ Err c → given' ≡ Err c) where
  pub Gives-refused : (r : Refusal C) → Gives seen (Err r) given → Gives seen' (Err r) given'
  Gives-refused (refusal.Because c) gives = same c gives
  Gives-refused refusal.NoMemory gives = tt

  -- by `?`
  pub Gives-handed : (result : Result Z (Refusal C)) (r : Refusal C) → IsErr result × IsErrAnd result (λ e. e ≡ r) → Gives seen (Err r) given → Gives seen' result given'
  Gives-handed (Ok done) r is gives = absurd (true≢false (sym is.0))
  Gives-handed (Err e) r is gives = subst (λ (z : Refusal C). Gives seen' (Err z) given') (sym is.1) (Gives-refused r gives)
