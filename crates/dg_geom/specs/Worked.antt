-- Small transforms of which the checker computes what they compose to.
use Rattle.std.specs.Prelude.{ℕ, ◌*◌, ℤ, pos, neg_ℤ}
use Rattle.dg_base.specs.declared.datum.V3.{V3}
use Rattle.dg_base.specs.declared.datum.V4.{V4}
use Rattle.dg_geom.specs.declared.transform.Transform.{Transform}
use Rattle.dg_geom.specs.Vectors.{vector, equal_parts}

-- a whole number, and its negative
abbrev pub whole : ℕ → ℤ
whole n = pos (n * 1000000000)

abbrev pub below : ℕ → ℤ
below n = neg_ℤ (whole n)

abbrev pub quaternion : ℤ → ℤ → ℤ → ℤ → V4
quaternion x y z w = record { x = x; y = y; z = z; w = w }

abbrev pub unturned : V4
unturned = quaternion (whole 0) (whole 0) (whole 0) (whole 1)

-- a place that is not scaled
abbrev pub place : V3 → V4 → Transform
place position rotation = record { position = position; rotation = rotation; scale = equal_parts (whole 1) }

-- 10 along x, and a quarter turn about z with eight digits
abbrev pub quarter : ℤ
quarter = pos 707106770

abbrev pub outer_place : Transform
outer_place = place (vector (whole 10) (whole 0) (whole 0)) (quaternion (whole 0) (whole 0) quarter quarter)

abbrev pub along_x : ℤ → Transform
along_x x = place (vector x (whole 0) (whole 0)) unturned
