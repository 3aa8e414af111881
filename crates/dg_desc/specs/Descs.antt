-- What the messages of a tree without fault say.
use Rattle.std.specs.Prelude.{ℕ, List, map, Option, Some, None, Result, Ok, Err}
use Rattle.dg_ptext.specs.declared.tree.Field.{Field}
use Rattle.dg_desc.specs.declared.known.Message.TheVariants as message
use Rattle.dg_desc.specs.declared.known.FieldName.{FieldName}
use Rattle.dg_desc.specs.declared.known.FieldName.TheVariants as name
use Rattle.dg_desc.specs.declared.descs.PropDesc.{PropDesc}
use Rattle.dg_desc.specs.declared.descs.RefDesc.{RefDesc}
use Rattle.dg_desc.specs.declared.descs.EmbedDesc.{EmbedDesc}
use Rattle.dg_desc.specs.declared.descs.GoDesc.{GoDesc}
use Rattle.dg_desc.specs.declared.descs.ChildDesc.{ChildDesc}
use Rattle.dg_desc.specs.declared.descs.CompPropsDesc.{CompPropsDesc}
use Rattle.dg_desc.specs.declared.descs.InstPropsDesc.{InstPropsDesc}
use Rattle.dg_desc.specs.declared.descs.InstDesc.{InstDesc}
use Rattle.dg_desc.specs.declared.descs.EmbedInstDesc.{EmbedInstDesc}
use Rattle.dg_desc.specs.declared.descs.CollInstDesc.{CollInstDesc}
use Rattle.dg_desc.specs.declared.descs.CollDesc.{CollDesc}
use Rattle.dg_desc.specs.declared.refusal.DescCode.{DescCode}
use Rattle.dg_desc.specs.Faults.{fault_of}
use Rattle.dg_desc.specs.Lookups.{fields_named, fields_in, last_value, unknown, text_of, type_in, switch_in, position_of, rotation_of, scale3_of, text_in}

-- the messages of a name, in order, each by the line and the fields of its own field
abbrev pub all_of : {D : Type 0} → (ℕ → List Field → D) → FieldName → List Field → List D
all_of one n fields = map (λ f. one f.line (fields_in f.value)) (fields_named n fields)

abbrev pub prop_of : ℕ → List Field → PropDesc
prop_of line fields = record {
  line = line;
  id = text_of name.Id fields;
  value = text_of name.Value fields;
  kind = type_in (last_value name.Type fields);
  unknown = unknown message.Prop fields;
}

abbrev pub comp_props_of : ℕ → List Field → CompPropsDesc
comp_props_of line fields = record {
  line = line;
  id = text_of name.Id fields;
  properties = all_of prop_of name.Properties fields;
  unknown = unknown message.CompProps fields;
}

abbrev pub inst_props_of : ℕ → List Field → InstPropsDesc
inst_props_of line fields = record {
  line = line;
  id = text_of name.Id fields;
  properties = all_of comp_props_of name.Properties fields;
  unknown = unknown message.InstProps fields;
}

abbrev pub ref_of : ℕ → List Field → RefDesc
ref_of line fields = record {
  line = line;
  id = text_of name.Id fields;
  component = text_of name.Component fields;
  position = position_of fields;
  rotation = rotation_of fields;
  properties = all_of prop_of name.Properties fields;
  unknown = unknown message.Ref fields;
}

abbrev pub embed_of : ℕ → List Field → EmbedDesc
embed_of line fields = record {
  line = line;
  id = text_of name.Id fields;
  kind = text_of name.Type fields;
  body = text_of name.Data fields;
  position = position_of fields;
  rotation = rotation_of fields;
  unknown = unknown message.Embed fields;
}

abbrev pub go_of : List Field → GoDesc
go_of fields = record {
  components = all_of ref_of name.Components fields;
  embedded_components = all_of embed_of name.EmbeddedComponents fields;
  unknown = unknown message.Go fields;
}

abbrev pub child_of : Field → ChildDesc
child_of f = record { line = f.line; id = text_in f.value }

abbrev pub children_of : List Field → List ChildDesc
children_of fields = map child_of (fields_named name.Children fields)

abbrev pub inst_of : ℕ → List Field → InstDesc
inst_of line fields = record {
  line = line;
  id = text_of name.Id fields;
  prototype = text_of name.Prototype fields;
  children = children_of fields;
  position = position_of fields;
  rotation = rotation_of fields;
  scale3 = scale3_of fields;
  component_properties = all_of comp_props_of name.ComponentProperties fields;
  unknown = unknown message.Inst fields;
}

abbrev pub embed_inst_of : ℕ → List Field → EmbedInstDesc
embed_inst_of line fields = record {
  line = line;
  id = text_of name.Id fields;
  children = children_of fields;
  body = text_of name.Data fields;
  position = position_of fields;
  rotation = rotation_of fields;
  scale3 = scale3_of fields;
  unknown = unknown message.EmbedInst fields;
}

abbrev pub coll_inst_of : ℕ → List Field → CollInstDesc
coll_inst_of line fields = record {
  line = line;
  id = text_of name.Id fields;
  collection = text_of name.Collection fields;
  position = position_of fields;
  rotation = rotation_of fields;
  scale3 = scale3_of fields;
  instance_properties = all_of inst_props_of name.InstanceProperties fields;
  unknown = unknown message.CollInst fields;
}

abbrev pub coll_of : List Field → CollDesc
coll_of fields = record {
  name = text_of name.Name fields;
  scale_along_z = switch_in (last_value name.ScaleAlongZ fields);
  instances = all_of inst_of name.Instances fields;
  embedded_instances = all_of embed_inst_of name.EmbeddedInstances fields;
  collection_instances = all_of coll_inst_of name.CollectionInstances fields;
  unknown = unknown message.Coll fields;
}

-- ---- what reading a tree answers

abbrev pub unless_fault : {D : Type 0} → Option DescCode → D → Result D DescCode
unless_fault None desc = Ok desc
unless_fault (Some code) desc = Err code

abbrev pub go_reading : List Field → Result GoDesc DescCode
go_reading tree = unless_fault (fault_of message.Go 1 tree) (go_of tree)

abbrev pub coll_reading : List Field → Result CollDesc DescCode
coll_reading tree = unless_fault (fault_of message.Coll 1 tree) (coll_of tree)
