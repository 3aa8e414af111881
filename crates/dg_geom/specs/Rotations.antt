-- Rotations are quaternions: an axis (x, y, z) and w. Nothing is normalized.
use Rattle.std.specs.Prelude.{◌+ℤ◌, ◌-ℤ◌, Bool, ◌&&◌}
use Rattle.dg_base.specs.declared.datum.V3.{V3}
use Rattle.dg_base.specs.declared.datum.V4.{V4}
use Rattle.dg_decimal.specs.Arithmetic.{product}
use Rattle.dg_geom.specs.Fit.{fits3, fits4}
use Rattle.dg_geom.specs.Vectors.{vector, equal_parts, sum, scaled, cross_plus, cross_minus, cross}

abbrev pub axis_of : V4 → V3
axis_of q = vector q.x q.y q.z

-- A vector s turned by q is s + w t + cross(axis, t), where t is twice cross(axis, s).
abbrev pub twice_cross : V3 → V3 → V3
twice_cross a b = sum (cross a b) (cross a b)

abbrev pub turned_by : V4 → V3 → V3 → V3
turned_by q s t = sum (sum s (scaled (equal_parts q.w) t)) (cross (axis_of q) t)

abbrev pub turned : V4 → V3 → V3
turned q s = turned_by q s (twice_cross (axis_of q) s)

-- What has to be in 64 bits for it: each product, the first cross product, its double, and what is turned.
abbrev pub fits_twice : V3 → V3 → Bool
fits_twice a b = fits3 (cross_plus a b) && (fits3 (cross_minus a b) && (fits3 (cross a b) && fits3 (twice_cross a b)))

abbrev pub fits_turned_by : V4 → V3 → V3 → Bool
fits_turned_by q s t =
    fits3 (scaled (equal_parts q.w) t)
    && (fits3 (cross_plus (axis_of q) t) && (fits3 (cross_minus (axis_of q) t) && fits3 (turned_by q s t)))

abbrev pub fits_turned : V4 → V3 → Bool
fits_turned q s = fits_twice (axis_of q) s && fits_turned_by q s (twice_cross (axis_of q) s)

-- The product of two quaternions, q outside of p.
abbrev pub combined : V4 → V4 → V4
combined q p = record {
  x = (product q.w p.x +ℤ product q.x p.w) +ℤ (product q.y p.z -ℤ product q.z p.y);
  y = (product q.w p.y -ℤ product q.x p.z) +ℤ (product q.y p.w +ℤ product q.z p.x);
  z = (product q.w p.z +ℤ product q.x p.y) -ℤ (product q.y p.x -ℤ product q.z p.w);
  w = (product q.w p.w -ℤ product q.x p.x) -ℤ (product q.y p.y +ℤ product q.z p.z);
}

-- the products of each of its components
abbrev pub x_products : V4 → V4 → V4
x_products q p = record { w = product q.w p.x; x = product q.x p.w; y = product q.y p.z; z = product q.z p.y }

abbrev pub y_products : V4 → V4 → V4
y_products q p = record { w = product q.w p.y; x = product q.x p.z; y = product q.y p.w; z = product q.z p.x }

abbrev pub z_products : V4 → V4 → V4
z_products q p = record { w = product q.w p.z; x = product q.x p.y; y = product q.y p.x; z = product q.z p.w }

abbrev pub w_products : V4 → V4 → V4
w_products q p = record { w = product q.w p.w; x = product q.x p.x; y = product q.y p.y; z = product q.z p.z }

abbrev pub fits_combined : V4 → V4 → Bool
fits_combined q p =
    fits4 (x_products q p)
    && (fits4 (y_products q p) && (fits4 (z_products q p) && (fits4 (w_products q p) && fits4 (combined q p))))
