-- What builds write, and where what they hold stands.
use Rattle.std.specs.Prelude.{ℕ, List, Option, Some, None, length, sum_by, filter_map, flat_map, fold, ℤ, pos, ◌+ℤ◌}
use Rattle.dg_base.specs.declared.datum.Datum.{Datum}
use Rattle.dg_base.specs.Tables.{Tables}
use Rattle.dg_base.specs.Value.{value_at}
use Rattle.dg_kinds_go.specs.Values.{good_in}
use Rattle.dg_kinds_coll.specs.Places.{place_in}
use Rattle.dg_build.specs.Contents.{entries_in}
use Rattle.dg_build.specs.Targets.{targets}
use Rattle.dg_play.specs.Play.{Reply, Builds, Line}

-- the value that is built, by plain evaluation at its revision; an answer that isn't good builds none
abbrev pub value_built : Tables → Reply → Option Datum
value_built t (Builds a) = good_in (value_at t a.revision.graph a.at)
value_built t _ = None

abbrev pub values_built : Tables → List Line → List Datum
values_built t lines = filter_map (λ (l : Line). value_built t l.reply) lines

-- how many files are written for the values, each file as often as it is written
abbrev pub files_written : List (List ℕ) → List Datum → ℕ
files_written names values = sum_by (λ d. length (targets d names)) values

-- how far along x an entry stands, in billionths
abbrev pub along_x : Datum → ℤ
along_x entry = (place_in (Some entry)).position.x

abbrev pub sum_along_x : List Datum → ℤ
sum_along_x entries = fold (λ sum entry. sum +ℤ along_x entry) (pos 0) entries

-- the entries of all values; what isn't a collection has none
abbrev pub entries_built : List Datum → List Datum
entries_built values = flat_map entries_in values
