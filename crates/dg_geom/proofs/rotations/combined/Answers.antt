use Rattle.std.proofs.Common.{rules}
use Rattle.std.specs.Prelude.{IsTrue}
use Rattle.dg_geom.specs.Fit.{fits4}
use Rattle.dg_geom.specs.Rotations.{combined, x_products, y_products, z_products, w_products}
use Rattle.dg_geom.proofs.Refusals.{refused, left_of, right_of, ahead}
use Rattle.dg_geom.proofs.rotations.combined.Goals as goal

pub returns-in_err-x : goal.returns-in_err-x
returns-in_err-x c =
    let past : IsTrue (fits4 (x_products c.args.q c.args.p)) → ⊥ = search rules in
    refused _ _ _ c.from_residual.ensures.0 (λ test. past (left_of _ _ test))

pub returns-in_err-y : goal.returns-in_err-y
returns-in_err-y c =
    let q = c.args.q in
    let p = c.args.p in
    let past : IsTrue (fits4 (y_products q p)) → ⊥ = search rules in
    refused _ _ _ c.from_residual-in_err-y.ensures.0 (λ test. past (left_of _ _ (right_of (fits4 (x_products q p)) _ test)))

pub returns-in_err-z : goal.returns-in_err-z
returns-in_err-z c =
    let q = c.args.q in
    let p = c.args.p in
    let past : IsTrue (fits4 (z_products q p)) → ⊥ = search rules in
    refused _ _ _ c.from_residual-in_err-z.ensures.0
    (λ test. past (left_of _ _ (right_of (fits4 (y_products q p)) _ (right_of (fits4 (x_products q p)) _ test))))

pub returns-in_err-w : goal.returns-in_err-w
returns-in_err-w c =
    let q = c.args.q in
    let p = c.args.p in
    let past : IsTrue (fits4 (w_products q p)) → ⊥ = search rules in
    refused _ _ _ c.from_residual-in_err-w.ensures.0
    (λ test. past (left_of _ _ (right_of (fits4 (z_products q p)) _ (right_of (fits4 (y_products q p)) _ (right_of (fits4 (x_products q p)) _ test)))))

pub returns : goal.returns
returns c =
    let q = c.args.q in
    let p = c.args.p in
    let x : IsTrue (fits4 (x_products q p)) = search rules in
    let y : IsTrue (fits4 (y_products q p)) = search rules in
    let z : IsTrue (fits4 (z_products q p)) = search rules in
    let w : IsTrue (fits4 (w_products q p)) = search rules in
    ahead _ _ _ _ x (ahead _ _ _ _ y (ahead _ _ _ _ z (ahead _ _ _ _ w (c.vector4_of.ensures (combined q p) (search rules) (search rules) (search rules) (search rules)))))
