-- How heavy a value is: 16, plus the bytes of its text, plus the weights of its members.
use Rattle.std.specs.Prelude.{ℕ, ◌+◌, List, length, sum_by}
use Rattle.dg_base.specs.declared.datum.Datum.{Datum, Row_of-Datum, end_of-Datum, more_of-Datum}
use Rattle.dg_base.specs.declared.datum.Datum.{Nil, Flag, Dec, Text, Vec3, Quat, Prop, List', Rec'}
use Rattle.dg_base.specs.declared.datum.Datum.{Row_of-FieldOf, end_of-FieldOf, more_of-FieldOf}
use Rattle.dg_base.specs.declared.datum.FieldOf.{FieldOf}

abbrev mutual
  pub weight : Datum → ℕ
  weight Nil = 16
  weight (Flag b) = 16
  weight (Dec d) = 16
  weight (Text t) = 16 + length t
  weight (Vec3 v) = 16
  weight (Quat q) = 16
  weight (Prop p) = 16 + length p.text
  weight (List' shape all) = 16 + weight_of_items all
  weight (Rec' shape all) = 16 + weight_of_fields all

  pub weight_of_items : {m : _} → Row_of-Datum m → ℕ
  weight_of_items end_of-Datum = 0
  weight_of_items (more_of-Datum item rest) = weight item + weight_of_items rest

  pub weight_of_fields : {m : _} → Row_of-FieldOf m → ℕ
  weight_of_fields end_of-FieldOf = 0
  weight_of_fields (more_of-FieldOf label value rest) = weight value + weight_of_fields rest

abbrev pub weights_of : List Datum → ℕ
weights_of = sum_by weight

abbrev pub field_weights_of : List FieldOf → ℕ
field_weights_of = sum_by (λ f. weight f.value)
