-- Project paths: a path begins with a slash, and what stands behind each of its slashes, up to the next one
-- or the end, is not empty, not one point and not two points.
use Rattle.std.specs.Prelude.{ℕ, List, [], ◌∷◌, Bool, false, not, ◌&&◌, ◌==◌, bytes_eq, codes, length, nat_eq}
use Rattle.std.specs.List.{slice_split, list_all, ends_with}

abbrev pub is_slash : ℕ → Bool
is_slash b = b == 47

abbrev pub is_segment : List ℕ → Bool
is_segment s = not (bytes_eq s []) && (not (bytes_eq s (codes ".")) && not (bytes_eq s (codes "..")))

abbrev pub are_segments : List (List ℕ) → Bool
are_segments [] = false
are_segments (before ∷ segments) = (bytes_eq before [] && not (length segments == 0)) && list_all is_segment segments

abbrev pub is_project_path : List ℕ → Bool
is_project_path path = are_segments (slice_split is_slash path)

-- the path's last bytes are this ending
abbrev pub ends_in : List ℕ → List ℕ → Bool
ends_in path ending = ends_with nat_eq path ending
