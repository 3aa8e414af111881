-- A value has no more in it than it weighs.
use Rattle.std.proofs.Common.{ℕ, suc, ◌+◌, ◌≤◌, List, [], ◌∷◌, Option, Some, None, filter_map, flat_map, length, length-append, arith}
use Rattle.std.specs.List.{cons_option}
use Rattle.dg_base.specs.declared.ids.Label.{Label}
use Rattle.dg_base.specs.declared.datum.Datum.{Datum, Text, Prop, List', Rec', Row_of-Datum, end_of-Datum, more_of-Datum, Row_of-FieldOf, end_of-FieldOf, more_of-FieldOf, items-the_row-Datum, items-the_row-FieldOf}
use Rattle.dg_base.specs.Weight.{weight, weight_of_items, weight_of_fields}
use Rattle.dg_base.specs.Same.{same_label}
use Rattle.dg_base.specs.Graph.{value_in}
use Rattle.dg_labels.specs.declared.labels.TheConstants.{COMPONENTS, OBJECT, ENTRIES}
use Rattle.dg_kinds_go.specs.Values.{items_in, field_in}
use Rattle.dg_build.specs.Paths.{is_of_collection}
use Rattle.dg_build.specs.Contents.{content_in, contents_of, contents_in, path_in, entries_in, object_in, components_in}
use Rattle.dg_build_laws.proofs.Lists.{at_test}

abbrev weight_or : Option Datum → ℕ
weight_or None = 0
weight_or (Some d) = weight d

weight_some : (d : Datum) → 1 ≤ weight d
weight_some (Text t) = omega arith
weight_some (Prop p) = omega arith
weight_some (List' shape all) = omega arith
weight_some (Rec' shape all) = omega arith
weight_some _ = omega arith

-- ---- members

-- what each member gives
module _ {X : Type 0} (f : Datum → List X) (few : (d : Datum) → length (f d) ≤ weight d) where
  rows_few : (n : _) (row : Row_of-Datum n) → length (flat_map f (items-the_row-Datum n row)) ≤ weight_of_items row
  rows_few n end_of-Datum = omega arith
  rows_few n (more_of-Datum item rest) =
      omega (arith, length-append (f item) (flat_map f (items-the_row-Datum _ rest)), few item, rows_few _ rest)

  items_few : (o : Option Datum) → length (flat_map f (items_in o)) ≤ weight_or o
  items_few (Some (List' shape all)) = omega (arith, rows_few _ all)
  items_few _ = omega arith

row_short : (n : _) (row : Row_of-Datum n) → length (items-the_row-Datum n row) ≤ weight_of_items row
row_short n end_of-Datum = omega arith
row_short n (more_of-Datum item rest) = omega (arith, weight_some item, row_short _ rest)

items_short : (o : Option Datum) → length (items_in o) ≤ weight_or o
items_short (Some (List' shape all)) = omega (arith, row_short _ all)
items_short _ = omega arith

-- ---- fields

fields_light : (n : _) (row : Row_of-FieldOf n) (l : Label) → weight_or (value_in (items-the_row-FieldOf n row) l) ≤ weight_of_fields row
fields_light n end_of-FieldOf l = omega arith
fields_light n (more_of-FieldOf label value rest) l =
    at_test (λ (o : Option Datum). weight_or o ≤ weight value + weight_of_fields rest) (same_label label l) (Some value) (value_in (items-the_row-FieldOf _ rest) l)
    (omega arith) (omega (arith, fields_light _ rest l))

field_light : (o : Option Datum) (l : Label) → weight_or (field_in o l) ≤ weight_or o
field_light (Some (Rec' shape all)) l = omega (arith, fields_light _ all l)
field_light _ l = omega arith

-- ---- what is built

given_few : {X Y : Type 0} (h : X → Option Y) (xs : List X) → length (filter_map h xs) ≤ length xs
given_few h [] = omega arith
given_few {X} {Y} h (x ∷ xs) = one_more (h x) (filter_map h xs) (given_few h xs)
  where
    one_more : (o : Option Y) (ys : List Y) → length ys ≤ length xs → length (cons_option o ys) ≤ suc (length xs)
    one_more None ys few = omega (arith, few)
    one_more (Some y) ys few = omega (arith, few)

object_few : (o : Option Datum) → length (contents_of o) ≤ weight_or o
object_few o = omega (arith, given_few content_in (components_in o), items_short (field_in o COMPONENTS), field_light o COMPONENTS)

pub contents_few : (built : Datum) → length (contents_in built) ≤ weight built
contents_few built =
    let in_entries = items_few (λ e. contents_of (object_in e)) (λ e. omega (arith, object_few (object_in e), field_light (Some e) OBJECT)) (field_in (Some built) ENTRIES) in
    at_test (λ l. length l ≤ weight built) (is_of_collection (path_in built)) (flat_map (λ e. contents_of (object_in e)) (entries_in built)) (contents_of (Some built))
    (omega (arith, in_entries, field_light (Some built) ENTRIES)) (object_few (Some built))

pub entries_few : (built : Datum) → length (entries_in built) ≤ weight built
entries_few built = omega (arith, items_short (field_in (Some built) ENTRIES), field_light (Some built) ENTRIES)
