use Rattle.std.proofs.Common.{◌≡◌, true, ℤ}
use Rattle.std.proofs.lemmas.Result.{OkIff-at_err}
use Rattle.std.specs.Cmp.Derive.{both_true}
use Rattle.dg_base.specs.declared.datum.V4.{V4}
use Rattle.dg_decimal.specs.Value.{fits}
use Rattle.dg_geom.specs.Fit.{fits4}
use Rattle.dg_geom.proofs.Refusals.{refused, fits_at, kept_at, left_of, right_of}
use Rattle.dg_geom.proofs.vectors.vector4_of.Goals as goal

vector4 : ℤ → ℤ → ℤ → ℤ → V4
vector4 x y z w = record { x = x; y = y; z = z; w = w }

pub returns-in_err-x : goal.returns-in_err-x
returns-in_err-x c v x y z w =
    refused _ _ _ c.from_residual.ensures.0 (λ test. OkIff-at_err c.args.x _ v.x _ x c.in_err-x.was (left_of _ _ test))

pub returns-in_err-y : goal.returns-in_err-y
returns-in_err-y c v x y z w =
    refused _ _ _ c.from_residual-in_err-y.ensures.0
    (λ test. OkIff-at_err c.args.y _ v.y _ y c.in_err-y.was (left_of _ _ (right_of (fits v.x) _ test)))

pub returns-in_err-z : goal.returns-in_err-z
returns-in_err-z c v x y z w =
    refused _ _ _ c.from_residual-in_err-z.ensures.0
    (λ test. OkIff-at_err c.args.z _ v.z _ z c.in_err-z.was (left_of _ _ (right_of (fits v.y) _ (right_of (fits v.x) _ test))))

pub returns-in_err-w : goal.returns-in_err-w
returns-in_err-w c v x y z w =
    refused _ _ _ c.from_residual-in_err-w.ensures.0
    (λ test. OkIff-at_err c.args.w _ v.w _ w c.in_err-w.was (right_of (fits v.z) _ (right_of (fits v.y) _ (right_of (fits v.x) _ test))))

pub returns : goal.returns
returns c v x y z w =
    let test : fits4 v ≡ true = both_true (fits_at _ v.x _ x c.in_ok-x.was) (both_true (fits_at _ v.y _ y c.in_ok-y.was) (both_true (fits_at _ v.z _ z c.in_ok-z.was) (fits_at _ v.w _ w c.in_ok-w.was))) in (
      test,
      λ i. let at : V4 = record {
        x = kept_at _ v.x _ x c.in_ok-x.was i;
        y = kept_at _ v.y _ y c.in_ok-y.was i;
        z = kept_at _ v.z _ z c.in_ok-z.was i;
        w = kept_at _ v.w _ w c.in_ok-w.was i;
      } in at,
    )
