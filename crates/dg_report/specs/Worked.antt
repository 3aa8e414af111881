-- Answers of which the checker computes what is printed.
use Rattle.std.specs.Prelude.{ℕ, List, [], ◌∷◌, false, codes, pos, negsuc, ℤ}
use Rattle.dg_base.specs.declared.datum.Datum.{Datum}
use Rattle.dg_base.specs.declared.datum.Datum.TheVariants as datum
use Rattle.dg_base.specs.declared.datum.FieldOf.{FieldOf}
use Rattle.dg_base.specs.declared.datum.PType.TheVariants as ptype
use Rattle.dg_base.specs.declared.answer.Answer.{Answer}
use Rattle.dg_base.specs.declared.answer.Answer.TheVariants as answer
use Rattle.dg_base.specs.declared.answer.Fault.{Fault}
use Rattle.dg_base.specs.declared.answer.FaultCode.{FaultCode}
use Rattle.dg_base.specs.declared.answer.FaultCode.TheVariants as code

-- one open name, whose label is 1,024
abbrev pub one_name : List (List ℕ)
one_name = codes "speed" ∷ []

abbrev pub field : ℕ → Datum → FieldOf
field label value = record { label = record { 0 = label }; value = value }

abbrev pub one : ℤ
one = pos 1000000000

-- the record of a component
abbrev pub component : Datum
component =
    datum.Rec (field 11 (datum.Text (codes "c")) ∷ field 12 (datum.Text []) ∷ field 13 (datum.Text [])
    ∷ field 14 (datum.Vec3 (record { x = pos 0; y = pos 0; z = pos 0 }))
    ∷ field 15 (datum.Quat (record { x = pos 0; y = pos 0; z = pos 0; w = one })) ∷ [])

abbrev pub fault_at : ℕ → ℕ → FaultCode → Fault
fault_at node label code = record { at = record { node = record { 0 = node }; label = record { 0 = label } }; code = code }

-- faults at a property, at an open one, and at labels without a name
abbrev pub faults : Answer
faults = answer.Bad (fault_at 1 1 code.Range ∷ fault_at 20 1024 code.BadName ∷ fault_at 3 99 code.NoEndpoint ∷ fault_at 4 1025 code.Defective ∷ [])

abbrev pub property : Datum
property = datum.Prop (record { name = record { 0 = 1024 }; ptype = ptype.Vector3; text = codes "1, 2, 3" })

abbrev pub some_values : Datum
some_values = datum.List (datum.Nil ∷ datum.Flag false ∷ datum.Dec (negsuc 499999999) ∷ property ∷ [])
