-- The test that the kinds of a schema have to pass. What else the laws of a schema ask for holds of
-- any rows: a preset says its type, and an array has no place for a substitute.
use Rattle.std.specs.Prelude.{List, [], ◌∷◌, Bool, true, false, ◌&&◌, Some, map, nat_lt}
use Rattle.std.specs.List.{list_all}
use Rattle.dg_base.specs.declared.ids.Label.{Label}
use Rattle.dg_base.specs.declared.ids.TheConstants.{FIRST_OPEN}
use Rattle.dg_base.specs.declared.schema.ArgSpec.{ArgSpec}
use Rattle.dg_base.specs.declared.schema.ArgSpec.TheVariants as arg
use Rattle.dg_base.specs.Same.{same_label}
use Rattle.dg_base.specs.Order.{rises}
use Rattle.dg_base.specs.Role.{is_given, is_input}
use Rattle.dg_rows.specs.Rows.{PlainRow, PlainKind, entry_at, role_of, args_of}

-- the labels are those of the rows, one by one
abbrev pub are_labels : List Label → List PlainRow → Bool
are_labels [] [] = true
are_labels (l ∷ ls) (x ∷ xs) = same_label l x.0 && are_labels ls xs
are_labels _ _ = false

abbrev pub is_low : Label → Bool
is_low l = nat_lt l.0 FIRST_OPEN

-- the labels rise, so none stands twice
abbrev pub are_in_order : List Label → Bool
are_in_order ls = rises (map (λ l. l.0) ls)

-- an argument names a property or output, or an input, of the kind
abbrev pub names : List PlainRow → ArgSpec → Bool
names xs (arg.Own l) = is_given (role_of (entry_at xs l))
names xs (arg.Input i) = is_input (role_of (entry_at xs i))
names xs arg.Open = true

abbrev pub are_named : List PlainRow → PlainRow → Bool
are_named xs x = list_all (names xs) (args_of (Some x.1))

abbrev pub is_fit : List Label → List PlainRow → Bool
is_fit ls xs = are_labels ls xs && (list_all is_low ls && (are_in_order ls && list_all (are_named xs) xs))

abbrev pub are_fit : List PlainKind → Bool
are_fit kinds = list_all (λ k. is_fit k.labels k.rows) kinds
