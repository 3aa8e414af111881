-- The fields of the messages, by the tables of known ones.
use Rattle.std.specs.Prelude.{ℕ, List, [], ◌∷◌, Bool, true, false, cond, Option, Some, None, codes, bytes_eq}
use Rattle.dg_desc.specs.declared.known.Message.{Message}
use Rattle.dg_desc.specs.declared.known.Message.TheVariants as message
use Rattle.dg_desc.specs.declared.known.FieldName.{FieldName}
use Rattle.dg_desc.specs.declared.known.FieldName.TheVariants as name
use Rattle.dg_desc.specs.declared.known.Form.TheVariants as form
use Rattle.dg_desc.specs.declared.known.Row.{Row}
use Rattle.dg_desc.specs.declared.known.Place.{Place}
use Rattle.dg_desc.specs.declared.known.TheConstants.{GO, REF, EMBED, COLL, INST, EMBED_INST, COLL_INST, PROP, COMP_PROPS, INST_PROPS, VECTOR, QUATERNION}

-- the known fields of a message, in canonical order
abbrev pub rows_of : Message → List Row
rows_of message.Go = GO
rows_of message.Ref = REF
rows_of message.Embed = EMBED
rows_of message.Coll = COLL
rows_of message.Inst = INST
rows_of message.EmbedInst = EMBED_INST
rows_of message.CollInst = COLL_INST
rows_of message.Prop = PROP
rows_of message.CompProps = COMP_PROPS
rows_of message.InstProps = INST_PROPS
rows_of message.Vector = VECTOR
rows_of message.Quaternion = QUATERNION

-- how a field's name is written
abbrev pub label_of : FieldName → List ℕ
label_of name.Components = codes "components"
label_of name.EmbeddedComponents = codes "embedded_components"
label_of name.Name = codes "name"
label_of name.ScaleAlongZ = codes "scale_along_z"
label_of name.Instances = codes "instances"
label_of name.EmbeddedInstances = codes "embedded_instances"
label_of name.CollectionInstances = codes "collection_instances"
label_of name.Id = codes "id"
label_of name.Component = codes "component"
label_of name.Prototype = codes "prototype"
label_of name.Collection = codes "collection"
label_of name.Children = codes "children"
label_of name.Type = codes "type"
label_of name.Value = codes "value"
label_of name.Data = codes "data"
label_of name.Position = codes "position"
label_of name.Rotation = codes "rotation"
label_of name.Scale = codes "scale"
label_of name.Scale3 = codes "scale3"
label_of name.Properties = codes "properties"
label_of name.ComponentProperties = codes "component_properties"
label_of name.InstanceProperties = codes "instance_properties"
label_of name.X = codes "x"
label_of name.Y = codes "y"
label_of name.Z = codes "z"
label_of name.W = codes "w"

-- the known field that has this label
abbrev pub row_in : List Row → List ℕ → Option Row
row_in [] label = None
row_in (r ∷ rs) label = cond (bytes_eq (label_of r.name) label) (Some r) (row_in rs label)

-- a message that has no fields but the known ones
abbrev pub is_closed : Message → Bool
is_closed message.Vector = true
is_closed message.Quaternion = true
is_closed _ = false

-- what is known of a field: a known one has the form of its row, any other may have any value, or may not stand there
abbrev pub placed : Option Row → Bool → Place
placed (Some r) closed = record { name = Some r.name; form = r.form }
placed None closed = record { name = None; form = cond closed form.Never form.Any }

abbrev pub place_in : Message → List ℕ → Place
place_in m label = placed (row_in (rows_of m) label) (is_closed m)
