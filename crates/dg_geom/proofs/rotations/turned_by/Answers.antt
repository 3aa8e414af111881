use Rattle.std.proofs.Common.{rules}
use Rattle.std.specs.Prelude.{IsTrue}
use Rattle.dg_geom.specs.Fit.{fits3}
use Rattle.dg_geom.specs.Vectors.{equal_parts, scaled, cross_plus, cross_minus}
use Rattle.dg_geom.specs.Rotations.{axis_of, turned_by}
use Rattle.dg_geom.proofs.Refusals.{refused, left_of, right_of, ahead}
use Rattle.dg_geom.proofs.rotations.turned_by.Goals as goal

pub returns-in_err-along : goal.returns-in_err-along
returns-in_err-along c =
    let past : IsTrue (fits3 (scaled (equal_parts c.args.rotation.w) c.args.twice)) → ⊥ = search rules in
    refused _ _ _ c.from_residual.ensures.0 (λ test. past (left_of _ _ test))

pub returns-in_err-plus : goal.returns-in_err-plus
returns-in_err-plus c =
    let along = fits3 (scaled (equal_parts c.args.rotation.w) c.args.twice) in
    let past : IsTrue (fits3 (cross_plus (axis_of c.args.rotation) c.args.twice)) → ⊥ = search rules in
    refused _ _ _ c.from_residual-in_err-plus.ensures.0 (λ test. past (left_of _ _ (right_of along _ test)))

pub returns-in_err-minus : goal.returns-in_err-minus
returns-in_err-minus c =
    let along = fits3 (scaled (equal_parts c.args.rotation.w) c.args.twice) in
    let plus = fits3 (cross_plus (axis_of c.args.rotation) c.args.twice) in
    let past : IsTrue (fits3 (cross_minus (axis_of c.args.rotation) c.args.twice)) → ⊥ = search rules in
    refused _ _ _ c.from_residual-in_err-minus.ensures.0 (λ test. past (left_of _ _ (right_of plus _ (right_of along _ test))))

pub returns : goal.returns
returns c =
    let q = c.args.rotation in
    let t = c.args.twice in
    let along : IsTrue (fits3 (scaled (equal_parts q.w) t)) = search rules in
    let plus : IsTrue (fits3 (cross_plus (axis_of q) t)) = search rules in
    let minus : IsTrue (fits3 (cross_minus (axis_of q) t)) = search rules in
    ahead _ _ _ _ along (ahead _ _ _ _ plus (ahead _ _ _ _ minus (c.vector_of.ensures (turned_by q c.args.vector t) (search rules) (search rules) (search rules))))
