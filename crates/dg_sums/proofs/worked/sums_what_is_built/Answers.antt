use Rattle.std.proofs.Common.{◌≡◌, ◌∙◌, ℕ, List, [], ◌∷◌, ◌++◌, codes, ℤ, pos, ◌+ℤ◌, map, ap}
use Rattle.std.specs.Fmt.{decimal, digits}
use Rattle.dg_decimal.specs.Canonical.{canonical}
use Rattle.dg_base.specs.declared.datum.Datum.{Datum, items_hidden-the_row-Datum-0, items_hidden-the_row-FieldOf-1}
use Rattle.dg_base.specs.declared.datum.Datum.TheVariants as datum
use Rattle.dg_base.specs.declared.datum.FieldOf.{FieldOf}
use Rattle.dg_base.specs.Graph.{value_in}
use Rattle.dg_labels.specs.declared.labels.TheConstants.{ID, POSITION, CHILDREN, OBJECT}
use Rattle.dg_kinds_go.specs.Values.{field}
use Rattle.dg_kinds_coll.specs.Places.{equal3, vec3_or}
use Rattle.dg_build.specs.Worked.{one_content, parent_and_child, entry, game_object, text}
use Rattle.dg_sums.specs.Builds.{along_x, entries_built, files_written, sum_along_x}
use Rattle.dg_sums.proofs.worked.sums_what_is_built.Goals as goal

abbrev values : List Datum
values = parent_and_child ∷ one_content ∷ []

the_files : files_written [] values ≡ 4
unfolding digits
the_files = simp (items_hidden-the_row-Datum-0, items_hidden-the_row-FieldOf-1)

abbrev parent : Datum
parent = entry (codes "/b") (pos 1000000000) (codes "/c" ∷ []) (game_object [] [])

abbrev child : Datum
child = entry (codes "/c") (pos 0) [] (game_object [] [])

the_entries : entries_built values ≡ parent ∷ child ∷ []
the_entries = simp (items_hidden-the_row-Datum-0, items_hidden-the_row-FieldOf-1)

along_x-entry : (id : List ℕ) (n : ℤ) (children : List (List ℕ)) (object : Datum) → along_x (entry id n children object) ≡ n
along_x-entry id n children object =
    ap (λ (fields : List FieldOf). (vec3_or (equal3 (pos 0)) (value_in fields POSITION)).x) (items_hidden-the_row-FieldOf-1 (
    field ID (text id) ∷ field POSITION (datum.Vec3 (equal3 n)) ∷ field CHILDREN (datum.List (map text children)) ∷ field OBJECT object ∷ []))

the_sum : sum_along_x (entries_built values) ≡ pos 1000000000
the_sum =
    ap sum_along_x the_entries
    ∙ ap (λ (x : ℤ). (pos 0 +ℤ x) +ℤ along_x child) (along_x-entry (codes "/b") (pos 1000000000) (codes "/c" ∷ []) (game_object [] []))
    ∙ ap (λ (x : ℤ). pos 1000000000 +ℤ x) (along_x-entry (codes "/c") (pos 0) [] (game_object [] []))

abbrev line : ℕ → ℤ → List ℕ
line files sum = codes "built " ++ decimal files ++ codes " sum " ++ canonical sum ++ 10 ∷ []

pub returns : goal.returns
unfolding digits
returns c = ap (λ (n : ℕ). line n (sum_along_x (entries_built values))) the_files ∙ ap (line 4) the_sum
