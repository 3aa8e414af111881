-- What stands at a place inside of another: the inner position is scaled, turned and moved by the outer
-- transform, the rotations are combined, and the scales multiplied.
use Rattle.std.specs.Prelude.{Bool, cond, ◌&&◌, Option, Some, None}
use Rattle.dg_base.specs.declared.datum.V3.{V3}
use Rattle.dg_geom.specs.declared.transform.Transform.{Transform}
use Rattle.dg_geom.specs.Fit.{fits3}
use Rattle.dg_geom.specs.Vectors.{sum, scaled}
use Rattle.dg_geom.specs.Rotations.{turned, fits_turned, combined, fits_combined}

-- the inner position in the outer one's scale, and then turned
abbrev pub scaled_position : Transform → Transform → V3
scaled_position outer inner = scaled outer.scale inner.position

abbrev pub turned_position : Transform → Transform → V3
turned_position outer inner = turned outer.rotation (scaled_position outer inner)

abbrev pub composed : Transform → Transform → Transform
composed outer inner = record {
  position = sum outer.position (turned_position outer inner);
  rotation = combined outer.rotation inner.rotation;
  scale = scaled outer.scale inner.scale;
}

-- each product, each vector on the way and each number of the result is in 64 bits
abbrev pub is_in_range : Transform → Transform → Bool
is_in_range outer inner =
    fits3 (scaled_position outer inner)
    && (fits_turned outer.rotation (scaled_position outer inner)
    && (fits3 (composed outer inner).position
    && (fits_combined outer.rotation inner.rotation && fits3 (composed outer inner).scale)))

-- the composition, where it is in range
unfoldable pub composition : Transform → Transform → Option Transform
composition outer inner = cond (is_in_range outer inner) (Some (composed outer inner)) None
