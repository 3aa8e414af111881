-- What calls tell that read the files, one after the other.
use Rattle.std.proofs.Common.{◌≡◌, Result, Ok, Err, ap, ◌∙◌, subst, sym, true≢false}
use Rattle.std.specs.Prelude.{IsErr, IsErrAnd}
use Rattle.dg_base.specs.Refusal.{Gives}
use Rattle.dg_base.specs.Tables.{Tables}
use Rattle.dg_base.specs.declared.refusal.Refusal.{Refusal}
use Rattle.dg_base.specs.declared.refusal.Refusal.TheVariants as refusal
use Rattle.dg_tool.specs.declared.halt.Halt.{Halt}
use Rattle.dg_tool.specs.declared.halt.Halt.TheVariants as halt
use Rattle.dg_tool.specs.Input.{Tells}
use Rattle.dg_editor.specs.Machine.{State as Editor}
use Rattle.dg_tool.specs.Out.{Doing, Out, halted, out_of_doing}
use Rattle.dg_tool.specs.Statement.{IsOutput, IsStarted}

-- the error that is handed on is the one that was answered
pub handed : {X E : Type 0} (r : Result X E) (e : E) → IsErr r × IsErrAnd r (λ x. x ≡ e) → r ≡ Err e
handed (Ok x) e is = absurd (true≢false (sym is.0))
handed (Err x) e is = ap Err is.1

-- where a call is refused, so is the whole of which it does a part
pub gives-on : {X Y W Z : Type 0} (view : X → Y) (other : W → Z) (e : Refusal Halt) (given : Result Y Halt) (whole : Result Z Halt) →
    ((h : Halt) → given ≡ Err h → whole ≡ Err h) → Gives view (Err e) given → Gives other (Err e) whole
gives-on view other (refusal.Because h) given whole stops is = stops h is
gives-on view other refusal.NoMemory given whole stops is = tt

pub gives-handed : {X Y W Z : Type 0} (view : X → Y) (other : W → Z) (r : Result W (Refusal Halt)) (e : Refusal Halt) (given : Result Y Halt) (whole : Result Z Halt) →
    IsErr r × IsErrAnd r (λ x. x ≡ e) → ((h : Halt) → given ≡ Err h → whole ≡ Err h) → Gives view (Err e) given → Gives other r whole
gives-handed view other r e given whole is stops gives = subst (λ q. Gives other q whole) (sym (handed r e is)) (gives-on view other e given whole stops gives)

module _ {X Y : Type 0} (view : X → Y) where
  -- a call without files tells what it gives
  pub told-of : (r : Result X (Refusal Halt)) (given : Result Y Halt) → Gives view r given → Tells view r given
  told-of (Ok x) given is = is
  told-of (Err refusal.NoMemory) given is = tt
  told-of (Err (refusal.Because halt.FileFault)) given is = tt
  told-of (Err (refusal.Because halt.NoInput)) given is = is
  told-of (Err (refusal.Because (halt.BadLine line code))) given is = is
  told-of (Err (refusal.Because (halt.BadFile line code))) given is = is
  told-of (Err (refusal.Because (halt.TooLarge what))) given is = is

  -- and no fault of the files where that isn't one
  pub no_fault-of : (r : Result X (Refusal Halt)) (given : Result Y Halt) → (given ≡ Err halt.FileFault → ⊥) → Gives view r given → r ≡ Err (refusal.Because halt.FileFault) → ⊥
  no_fault-of r given none is failed = none (subst (λ q. Gives view q given) failed is)

  module _ {W Z : Type 0} (other : W → Z) (on : Result Y Halt → Result Z Halt) (stops : (h : Halt) → on (Err h) ≡ Err h) where
    -- where it is refused, so is what goes on from it
    pub told-on : (e : Refusal Halt) (given : Result Y Halt) → Tells view (Err e) given → Tells other (Err e) (on given)
    told-on refusal.NoMemory given is = tt
    told-on (refusal.Because halt.FileFault) given is = tt
    told-on (refusal.Because halt.NoInput) given is = ap on is ∙ stops halt.NoInput
    told-on (refusal.Because (halt.BadLine line code)) given is = ap on is ∙ stops (halt.BadLine line code)
    told-on (refusal.Because (halt.BadFile line code)) given is = ap on is ∙ stops (halt.BadFile line code)
    told-on (refusal.Because (halt.TooLarge what)) given is = ap on is ∙ stops (halt.TooLarge what)

  -- and what the run leaves of it
  module _ (on : Result Y Halt → Out) (stops : (h : Halt) → on (Err h) ≡ halted h) where
    pub told-out : (D : Type 0) (t : Tables) (e : Refusal Halt) (given : Result Y Halt) → Tells view (Err e) given → IsOutput {D = D} t (Err e) (on given)
    told-out D t refusal.NoMemory given is = tt
    told-out D t (refusal.Because halt.FileFault) given is = tt
    told-out D t (refusal.Because halt.NoInput) given is = ap on is ∙ stops halt.NoInput
    told-out D t (refusal.Because (halt.BadLine line code)) given is = ap on is ∙ stops (halt.BadLine line code)
    told-out D t (refusal.Because (halt.BadFile line code)) given is = ap on is ∙ stops (halt.BadFile line code)
    told-out D t (refusal.Because (halt.TooLarge what)) given is = ap on is ∙ stops (halt.TooLarge what)

  -- and what words come to, where a part of it is refused
  module _ (t : Tables) (on : Result Y Halt → Doing) (stops : (h : Halt) → out_of_doing t (on (Err h)) ≡ halted h) where
    pub told-started : (X : Type 0) (editor : X → Editor) (e : Refusal Halt) (given : Result Y Halt) → Tells view (Err e) given → IsStarted {X = X} editor t (Err e) (on given)
    told-started X editor refusal.NoMemory given is = tt
    told-started X editor (refusal.Because halt.FileFault) given is = tt
    told-started X editor (refusal.Because halt.NoInput) given is = ap (λ r. out_of_doing t (on r)) is ∙ stops halt.NoInput
    told-started X editor (refusal.Because (halt.BadLine line code)) given is = ap (λ r. out_of_doing t (on r)) is ∙ stops (halt.BadLine line code)
    told-started X editor (refusal.Because (halt.BadFile line code)) given is = ap (λ r. out_of_doing t (on r)) is ∙ stops (halt.BadFile line code)
    told-started X editor (refusal.Because (halt.TooLarge what)) given is = ap (λ r. out_of_doing t (on r)) is ∙ stops (halt.TooLarge what)

-- what is started is an output of the same, where it ends before a play
pub started-output : (X D : Type 0) (editor : X → Editor) (t : Tables) (e : Refusal Halt) (d : Doing) → IsStarted {X = X} editor t (Err e) d → IsOutput {D = D} t (Err e) (out_of_doing t d)
started-output X D editor t refusal.NoMemory d is = tt
started-output X D editor t (refusal.Because halt.FileFault) d is = tt
started-output X D editor t (refusal.Because halt.NoInput) d is = is
started-output X D editor t (refusal.Because (halt.BadLine line code)) d is = is
started-output X D editor t (refusal.Because (halt.BadFile line code)) d is = is
started-output X D editor t (refusal.Because (halt.TooLarge what)) d is = is
