use Rattle.std.proofs.Common.{◌≡◌, Some, Result, Ok, Err, IfOk, slice_get, subst, sym}
use Rattle.dg_line.specs.Revisions.{Seen}
use Rattle.dg_line.specs.Tickets.{Pin}
use Rattle.dg_desk.proofs.Tickets.{listed-opened}
use Rattle.dg_desk.proofs.tests.opened.Goals as goal

if_ok : {X E : Type 0} (P Q : X → Type 0) (r : Result X E) → ((x : X) → P x → Q x) → IfOk r P → IfOk r Q
if_ok P Q (Ok x) f h = f x h
if_ok P Q (Err e) f h = h

pub returns : goal.returns
returns c =
    if_ok _ _ c.open.result
    (λ d is. listed-opened (λ (r : Seen). r) (λ (q : Pin Seen _). slice_get c.args.line.now q.index ≡ Some q.revision) d c.in_ok-share.field-0 1 is
    (subst (λ (q : Pin Seen _). slice_get c.args.line.now q.index ≡ Some q.revision) (sym c.in_ok-share.ensures) c.requires))
    c.open.ensures
