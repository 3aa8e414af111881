use Rattle.std.proofs.Common.{subst, ap, ◌∙◌}
use Rattle.std.specs.Prelude.{IsTrue}
use Rattle.dg_base.specs.declared.datum.V3.{V3}
use Rattle.dg_geom.specs.Fit.{fits3}
use Rattle.dg_geom.specs.Vectors.{sum}
use Rattle.dg_geom.specs.Rotations.{turned, fits_turned, fits_combined}
use Rattle.dg_geom.specs.Composition.{scaled_position, composed}
use Rattle.dg_geom.proofs.Refusals.{refused, left_of, right_of}
use Rattle.dg_geom.proofs.transform.compose.Goals as goal

pub returns-in_err-scaled_position : goal.returns-in_err-scaled_position
returns-in_err-scaled_position c =
    refused _ _ _ c.from_residual.ensures.0 (λ test. c.in_err-scaled_position.ensures (left_of _ _ test))

pub returns-in_err-turned_position : goal.returns-in_err-turned_position
returns-in_err-turned_position c =
    let o = c.args.outer.now in
    let s = scaled_position o c.args.inner.now in
    let past : IsTrue (fits_turned o.rotation s) → ⊥ =
    subst (λ (p : V3). IsTrue (fits_turned o.rotation p) → ⊥) c.in_ok-scaled_position.ensures.1 c.in_err-turned_position.ensures in
    refused _ _ _ c.from_residual-in_err-turned_position.ensures.0 (λ test. past (left_of _ _ (right_of (fits3 s) _ test)))

pub returns-in_err-position : goal.returns-in_err-position
returns-in_err-position c =
    let o = c.args.outer.now in
    let i = c.args.inner.now in
    let s = scaled_position o i in
    let past : IsTrue (fits3 (composed o i).position) → ⊥ =
    subst (λ (p : V3). IsTrue (fits3 (sum o.position p)) → ⊥)
    (c.in_ok-turned_position.ensures.1 ∙ ap (turned o.rotation) c.in_ok-scaled_position.ensures.1)
    c.in_err-position.ensures in
    refused _ _ _ c.from_residual-in_err-position.ensures.0 (λ test. past (left_of _ _ (right_of (fits_turned o.rotation s) _ (right_of (fits3 s) _ test))))

pub returns-in_err-rotation : goal.returns-in_err-rotation
returns-in_err-rotation c =
    let o = c.args.outer.now in
    let i = c.args.inner.now in
    let s = scaled_position o i in
    refused _ _ _ c.from_residual-in_err-rotation.ensures.0
    (λ test. c.in_err-rotation.ensures (left_of _ _ (right_of (fits3 (composed o i).position) _ (right_of (fits_turned o.rotation s) _ (right_of (fits3 s) _ test)))))

pub returns-in_err-scale : goal.returns-in_err-scale
returns-in_err-scale c =
    let o = c.args.outer.now in
    let i = c.args.inner.now in
    let s = scaled_position o i in
    refused _ _ _ c.from_residual-in_err-scale.ensures.0
    (λ test. c.in_err-scale.ensures (right_of (fits_combined o.rotation i.rotation) _ (right_of (fits3 (composed o i).position) _ (right_of (fits_turned o.rotation s) _ (right_of (fits3 s) _ test)))))
