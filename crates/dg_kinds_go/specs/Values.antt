-- What a production reads of its arguments, and how its values are made. An argument of another
-- shape than the one that is looked for reads as none, as a text that is empty or as no values: the
-- arguments of a sound graph never have another shape.
use Rattle.std.specs.Prelude.{ℕ, List, [], Option, Some, None, map, slice_get}
use Rattle.dg_base.specs.declared.ids.Label.{Label}
use Rattle.dg_base.specs.declared.datum.Datum.{Datum, List', Rec', items-the_row-Datum, items-the_row-FieldOf}
use Rattle.dg_base.specs.declared.datum.Datum.TheVariants as datum
use Rattle.dg_base.specs.declared.datum.FieldOf.{FieldOf}
use Rattle.dg_base.specs.declared.datum.PropVal.{PropVal}
use Rattle.dg_base.specs.declared.answer.Answer.{Answer}
use Rattle.dg_base.specs.declared.answer.Answer.TheVariants as answer
use Rattle.dg_base.specs.declared.schema.ArgVal.{ArgVal}
use Rattle.dg_base.specs.declared.schema.ArgVal.TheVariants as arg_val
use Rattle.dg_base.specs.Graph.{value_in}

abbrev pub good_in : Answer → Option Datum
good_in (answer.Good d) = Some d
good_in _ = None

-- the value of one answer or of a substitute; an input without a source has none
abbrev pub value_of : Option ArgVal → Option Datum
value_of (Some (arg_val.One a)) = good_in a
value_of (Some (arg_val.Sub d)) = Some d
value_of _ = None

abbrev pub answers_of : Option ArgVal → List Answer
answers_of (Some (arg_val.Many as_)) = as_
answers_of _ = []

abbrev pub props_of : Option ArgVal → List PropVal
props_of (Some (arg_val.Open ps)) = ps
props_of _ = []

-- the arguments by their places, from 0
abbrev pub value_at : List ArgVal → ℕ → Option Datum
value_at args n = value_of (slice_get args n)

abbrev pub values_at : List ArgVal → ℕ → List (Option Datum)
values_at args n = map good_in (answers_of (slice_get args n))

abbrev pub props_at : List ArgVal → ℕ → List PropVal
props_at args n = props_of (slice_get args n)

-- the text, the members and the fields of a value
abbrev pub text_in : Option Datum → List ℕ
text_in (Some (datum.Text t)) = t
text_in _ = []

abbrev pub items_in : Option Datum → List Datum
items_in (Some (List' shape all)) = items-the_row-Datum _ all
items_in _ = []

abbrev pub fields_in : Option Datum → List FieldOf
fields_in (Some (Rec' shape all)) = items-the_row-FieldOf _ all
fields_in _ = []

-- the value of a record's field
abbrev pub field_in : Option Datum → Label → Option Datum
field_in d l = value_in (fields_in d) l

abbrev pub or_nil : Option Datum → Datum
or_nil None = datum.Nil
or_nil (Some d) = d

-- a field of a record
abbrev pub field : Label → Datum → FieldOf
field l d = record { label = l; value = d }
