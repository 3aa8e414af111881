-- What a schema has to have for loads.
use Rattle.std.proofs.Common.{◌≡◌, ◌≢◌, ℕ, true, List, Some, Contains, refl, ap, arith}
use Rattle.dg_base.specs.declared.ids.Label.{Label}
use Rattle.dg_base.specs.declared.ids.Kind.{Kind}
use Rattle.dg_base.specs.declared.datum.Datum.{Datum}
use Rattle.dg_base.specs.declared.datum.Datum.TheVariants as datum
use Rattle.dg_base.specs.declared.datum.V3.{V3}
use Rattle.dg_base.specs.declared.datum.V4.{V4}
use Rattle.dg_base.specs.Role.{given, taken, is_array}
use Rattle.dg_base.specs.Tables.{Tables, AreTables}
use Rattle.dg_base.specs.Owned.{cascading_inputs}
use Rattle.dg_base.specs.Sound.{may_be_set, agree}
use Rattle.dg_labels.specs.declared.kinds.TheConstants as kinds
use Rattle.dg_labels.specs.declared.labels.TheConstants as labels
use Rattle.dg_kinds_coll.specs.Defold.{defold_tables, defold_laws}

abbrev pub MaySet : Tables → Kind → Label → Datum → Type 0
MaySet t k label v = may_be_set (t.is_open k) label v (t.role k label) ≡ true

abbrev pub HasText : Tables → Kind → Label → Type 0
HasText t k label = (words : List ℕ) → MaySet t k label (datum.Text words)

abbrev pub HasVector : Tables → Kind → Label → Type 0
HasVector t k label = (v : V3) → MaySet t k label (datum.Vec3 v)

abbrev pub HasRotation : Tables → Kind → Type 0
HasRotation t k = (q : V4) → MaySet t k labels.ROTATION (datum.Quat q)

abbrev pub MayConnect : Tables → Kind → Label → Kind → Label → Type 0
MayConnect t from output to input = agree (given (t.role from output)) (taken (t.role to input)) ≡ true

abbrev pub IsArray : Tables → Kind → Label → Type 0
IsArray t k input = is_array (t.role k input) ≡ true

abbrev pub Cascades : Tables → Kind → Label → Type 0
Cascades t k input = Contains (cascading_inputs t (Some k)) input

pub record FitsLoads (t : Tables) : Type 0 where
  pub laws : AreTables t
  pub script_opens : t.is_open kinds.SCRIPT_FILE ≡ true
  pub ref_opens : t.is_open kinds.COMPONENT_REF ≡ true
  -- values
  pub script_path : HasText t kinds.SCRIPT_FILE labels.PATH
  pub resource_path : HasText t kinds.RESOURCE_FILE labels.PATH
  pub object_path : HasText t kinds.GAME_OBJECT labels.PATH
  pub collection_path : HasText t kinds.COLLECTION labels.PATH
  pub collection_name : HasText t kinds.COLLECTION labels.NAME
  pub collection_switch : MaySet t kinds.COLLECTION labels.SCALE_ALONG_Z (datum.Flag true)
  pub ref_id : HasText t kinds.COMPONENT_REF labels.ID
  pub embedded_id : HasText t kinds.COMPONENT_EMBEDDED labels.ID
  pub embedded_type : HasText t kinds.COMPONENT_EMBEDDED labels.TYPE
  pub embedded_data : HasText t kinds.COMPONENT_EMBEDDED labels.DATA
  pub go_id : HasText t kinds.GO_INSTANCE labels.ID
  pub coll_id : HasText t kinds.COLL_INSTANCE labels.ID
  -- places
  pub ref_position : HasVector t kinds.COMPONENT_REF labels.POSITION
  pub ref_rotation : HasRotation t kinds.COMPONENT_REF
  pub embedded_position : HasVector t kinds.COMPONENT_EMBEDDED labels.POSITION
  pub embedded_rotation : HasRotation t kinds.COMPONENT_EMBEDDED
  pub go_position : HasVector t kinds.GO_INSTANCE labels.POSITION
  pub go_rotation : HasRotation t kinds.GO_INSTANCE
  pub go_scale : HasVector t kinds.GO_INSTANCE labels.SCALE3
  pub coll_position : HasVector t kinds.COLL_INSTANCE labels.POSITION
  pub coll_rotation : HasRotation t kinds.COLL_INSTANCE
  pub coll_scale : HasVector t kinds.COLL_INSTANCE labels.SCALE3
  -- arcs
  pub script_resource : MayConnect t kinds.SCRIPT_FILE labels.RESOURCE kinds.COMPONENT_REF labels.RESOURCE
  pub file_resource : MayConnect t kinds.RESOURCE_FILE labels.RESOURCE kinds.COMPONENT_REF labels.RESOURCE
  pub ref_component : MayConnect t kinds.COMPONENT_REF labels.COMPONENT kinds.GAME_OBJECT labels.COMPONENTS
  pub embedded_component : MayConnect t kinds.COMPONENT_EMBEDDED labels.COMPONENT kinds.GAME_OBJECT labels.COMPONENTS
  pub object_source : MayConnect t kinds.GAME_OBJECT labels.OBJECT kinds.GO_INSTANCE labels.SOURCE
  pub go_instance : MayConnect t kinds.GO_INSTANCE labels.INSTANCE kinds.COLLECTION labels.INSTANCES
  pub flat_source : MayConnect t kinds.COLLECTION labels.FLAT kinds.COLL_INSTANCE labels.SOURCE
  pub coll_instance : MayConnect t kinds.COLL_INSTANCE labels.INSTANCE kinds.COLLECTION labels.SUBS
  pub child : MayConnect t kinds.GO_INSTANCE labels.ID kinds.GO_INSTANCE labels.CHILDREN
  pub components_array : IsArray t kinds.GAME_OBJECT labels.COMPONENTS
  pub instances_array : IsArray t kinds.COLLECTION labels.INSTANCES
  pub subs_array : IsArray t kinds.COLLECTION labels.SUBS
  pub children_array : IsArray t kinds.GO_INSTANCE labels.CHILDREN
  -- what is owned
  pub components_cascade : Cascades t kinds.GAME_OBJECT labels.COMPONENTS
  pub object_cascade : Cascades t kinds.GO_INSTANCE labels.SOURCE
  pub instances_cascade : Cascades t kinds.COLLECTION labels.INSTANCES
  pub flat_cascade : Cascades t kinds.COLL_INSTANCE labels.SOURCE
  pub subs_cascade : Cascades t kinds.COLLECTION labels.SUBS

pub defold_fits : FitsLoads defold_tables
defold_fits = record {
  laws = defold_laws;
  script_opens = refl;
  ref_opens = refl;
  script_path = λ words. refl;
  resource_path = λ words. refl;
  object_path = λ words. refl;
  collection_path = λ words. refl;
  collection_name = λ words. refl;
  collection_switch = refl;
  ref_id = λ words. refl;
  embedded_id = λ words. refl;
  embedded_type = λ words. refl;
  embedded_data = λ words. refl;
  go_id = λ words. refl;
  coll_id = λ words. refl;
  ref_position = λ v. refl;
  ref_rotation = λ q. refl;
  embedded_position = λ v. refl;
  embedded_rotation = λ q. refl;
  go_position = λ v. refl;
  go_rotation = λ q. refl;
  go_scale = λ v. refl;
  coll_position = λ v. refl;
  coll_rotation = λ q. refl;
  coll_scale = λ v. refl;
  script_resource = refl;
  file_resource = refl;
  ref_component = refl;
  embedded_component = refl;
  object_source = refl;
  go_instance = refl;
  flat_source = refl;
  coll_instance = refl;
  child = refl;
  components_array = refl;
  instances_array = refl;
  subs_array = refl;
  children_array = refl;
  components_cascade = (0, omega arith, refl);
  object_cascade = (0, omega arith, refl);
  instances_cascade = (0, omega arith, refl);
  flat_cascade = (0, omega arith, refl);
  subs_cascade = (1, omega arith, refl);
}

-- ---- kinds that differ

kinds_differ : (a b : Kind) → (a.0 ≡ b.0 → ⊥) → a ≢ b
kinds_differ a b numbers e = numbers (ap (λ (k : Kind). k.0) e)

pub ref_is_no_instance : kinds.COMPONENT_REF ≢ kinds.GO_INSTANCE
ref_is_no_instance = kinds_differ kinds.COMPONENT_REF kinds.GO_INSTANCE (λ (e : 8 ≡ 10). omega (arith, e))

pub object_is_no_instance : kinds.GAME_OBJECT ≢ kinds.GO_INSTANCE
object_is_no_instance = kinds_differ kinds.GAME_OBJECT kinds.GO_INSTANCE (λ (e : 7 ≡ 10). omega (arith, e))

pub instance_is_no_number : kinds.GO_INSTANCE ≢ kinds.NUM
instance_is_no_number = kinds_differ kinds.GO_INSTANCE kinds.NUM (λ (e : 10 ≡ 1). omega (arith, e))

pub sub_is_no_number : kinds.COLL_INSTANCE ≢ kinds.NUM
sub_is_no_number = kinds_differ kinds.COLL_INSTANCE kinds.NUM (λ (e : 11 ≡ 1). omega (arith, e))

pub collection_is_no_number : kinds.COLLECTION ≢ kinds.NUM
collection_is_no_number = kinds_differ kinds.COLLECTION kinds.NUM (λ (e : 12 ≡ 1). omega (arith, e))
