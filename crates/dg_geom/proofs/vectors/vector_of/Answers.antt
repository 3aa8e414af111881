use Rattle.std.proofs.Common.{◌≡◌, true}
use Rattle.std.proofs.lemmas.Result.{OkIff-at_err}
use Rattle.std.specs.Cmp.Derive.{both_true}
use Rattle.dg_decimal.specs.Value.{fits}
use Rattle.dg_geom.specs.Fit.{fits3}
use Rattle.dg_geom.specs.Vectors.{vector}
use Rattle.dg_geom.proofs.Refusals.{refused, fits_at, kept_at, left_of, right_of}
use Rattle.dg_geom.proofs.vectors.vector_of.Goals as goal

pub returns-in_err-x : goal.returns-in_err-x
returns-in_err-x c v x y z =
    refused _ _ _ c.from_residual.ensures.0 (λ test. OkIff-at_err c.args.x _ v.x _ x c.in_err-x.was (left_of _ _ test))

pub returns-in_err-y : goal.returns-in_err-y
returns-in_err-y c v x y z =
    refused _ _ _ c.from_residual-in_err-y.ensures.0
    (λ test. OkIff-at_err c.args.y _ v.y _ y c.in_err-y.was (left_of _ _ (right_of (fits v.x) _ test)))

pub returns-in_err-z : goal.returns-in_err-z
returns-in_err-z c v x y z =
    refused _ _ _ c.from_residual-in_err-z.ensures.0
    (λ test. OkIff-at_err c.args.z _ v.z _ z c.in_err-z.was (right_of (fits v.y) _ (right_of (fits v.x) _ test)))

pub returns : goal.returns
returns c v x y z =
    let test : fits3 v ≡ true = both_true (fits_at _ v.x _ x c.in_ok-x.was) (both_true (fits_at _ v.y _ y c.in_ok-y.was) (fits_at _ v.z _ z c.in_ok-z.was)) in
    (test, λ i. vector (kept_at _ v.x _ x c.in_ok-x.was i) (kept_at _ v.y _ y c.in_ok-y.was i) (kept_at _ v.z _ z c.in_ok-z.was i))
