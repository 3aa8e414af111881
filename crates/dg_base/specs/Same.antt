-- When two ids, labels, endpoints, arcs or faults are the same.
use Rattle.std.specs.Prelude.{ℕ, Bool, ◌==◌, ◌&&◌}
use Rattle.dg_base.specs.declared.ids.NodeId.{NodeId}
use Rattle.dg_base.specs.declared.ids.Label.{Label}
use Rattle.dg_base.specs.declared.ids.Endpoint.{Endpoint}
use Rattle.dg_base.specs.declared.ids.ArcRec.{ArcRec}
use Rattle.dg_base.specs.declared.answer.Fault.{Fault}
use Rattle.dg_base.specs.declared.answer.FaultCode.{FaultCode}
use Rattle.dg_base.specs.declared.answer.FaultCode.TheVariants.{NoEndpoint, Defective, Range, NoResource, DuplicateId, PropType, BadName, TooLong}
use Rattle.dg_base.specs.declared.schema.Ty.{Ty}
use Rattle.dg_base.specs.declared.schema.Ty.TheVariants as ty

abbrev pub same_node : NodeId → NodeId → Bool
same_node a b = a.0 == b.0

abbrev pub same_label : Label → Label → Bool
same_label a b = a.0 == b.0

abbrev pub same_end : Endpoint → Endpoint → Bool
same_end a b = same_node a.node b.node && same_label a.label b.label

abbrev pub same_arc : ArcRec → ArcRec → Bool
same_arc a b = same_end a.src b.src && (same_node a.node b.node && same_label a.input b.input)

abbrev pub number_of_code : FaultCode → ℕ
number_of_code NoEndpoint = 1
number_of_code Defective = 2
number_of_code Range = 3
number_of_code NoResource = 4
number_of_code DuplicateId = 5
number_of_code PropType = 6
number_of_code BadName = 7
number_of_code TooLong = 8

abbrev pub same_fault : Fault → Fault → Bool
same_fault a b = same_end a.at b.at && (number_of_code a.code == number_of_code b.code)

abbrev pub number_of_ty : Ty → ℕ
number_of_ty ty.Number = 1
number_of_ty ty.Text = 2
number_of_ty ty.Flag = 3
number_of_ty ty.Vec3 = 4
number_of_ty ty.Quat = 5
number_of_ty ty.Resource = 6
number_of_ty ty.Component = 7
number_of_ty ty.Object = 8
number_of_ty ty.Instance = 9
number_of_ty ty.Sub = 10
number_of_ty ty.Flat = 11
number_of_ty ty.Build = 12

abbrev pub same_ty : Ty → Ty → Bool
same_ty a b = number_of_ty a == number_of_ty b
