-- Vectors of three numbers of billionths. A product is rounded once to a whole number of billionths; sums
-- are exact.
use Rattle.std.specs.Prelude.{ℤ, ◌+ℤ◌, ◌-ℤ◌}
use Rattle.dg_base.specs.declared.datum.V3.{V3}
use Rattle.dg_decimal.specs.Arithmetic.{product}

-- x, y and z
abbrev pub vector : ℤ → ℤ → ℤ → V3
vector x y z = record { x = x; y = y; z = z }

-- the same number three times
abbrev pub equal_parts : ℤ → V3
equal_parts n = vector n n n

abbrev pub sum : V3 → V3 → V3
sum a b = vector (a.x +ℤ b.x) (a.y +ℤ b.y) (a.z +ℤ b.z)

abbrev pub difference : V3 → V3 → V3
difference a b = vector (a.x -ℤ b.x) (a.y -ℤ b.y) (a.z -ℤ b.z)

-- component by component
abbrev pub scaled : V3 → V3 → V3
scaled a b = vector (product a.x b.x) (product a.y b.y) (product a.z b.z)

-- the cross product, as the difference of its products
abbrev pub cross_plus : V3 → V3 → V3
cross_plus a b = vector (product a.y b.z) (product a.z b.x) (product a.x b.y)

abbrev pub cross_minus : V3 → V3 → V3
cross_minus a b = vector (product a.z b.y) (product a.x b.z) (product a.y b.x)

abbrev pub cross : V3 → V3 → V3
cross a b = difference (cross_plus a b) (cross_minus a b)
