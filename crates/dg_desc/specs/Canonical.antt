-- The canonical form of a description, which is what reading the tree gives that it is printed as: nothing has a line,
-- and what equals its default is taken as not given.
use Rattle.std.specs.Prelude.{map, Bool, cond, ◌&&◌, ℤ, pos, Option, Some, None}
use Rattle.std.specs.Ordering.{int_eq}
use Rattle.dg_base.specs.declared.datum.V3.{V3}
use Rattle.dg_base.specs.declared.datum.V4.{V4}
use Rattle.dg_desc.specs.declared.descs.PropDesc.{PropDesc}
use Rattle.dg_desc.specs.declared.descs.RefDesc.{RefDesc}
use Rattle.dg_desc.specs.declared.descs.EmbedDesc.{EmbedDesc}
use Rattle.dg_desc.specs.declared.descs.GoDesc.{GoDesc}
use Rattle.dg_desc.specs.declared.descs.ChildDesc.{ChildDesc}
use Rattle.dg_desc.specs.declared.descs.CompPropsDesc.{CompPropsDesc}
use Rattle.dg_desc.specs.declared.descs.InstPropsDesc.{InstPropsDesc}
use Rattle.dg_desc.specs.declared.descs.InstDesc.{InstDesc}
use Rattle.dg_desc.specs.declared.descs.EmbedInstDesc.{EmbedInstDesc}
use Rattle.dg_desc.specs.declared.descs.CollInstDesc.{CollInstDesc}
use Rattle.dg_desc.specs.declared.descs.CollDesc.{CollDesc}
use Rattle.dg_desc.specs.Lookups.{one}

-- the same number three times
abbrev pub is_even : ℤ → V3 → Bool
is_even other v = int_eq v.x other && int_eq v.y other && int_eq v.z other

-- a position or a scale that differs from its default
abbrev pub differing_vector : ℤ → Option V3 → Option V3
differing_vector other None = None
differing_vector other (Some v) = cond (is_even other v) None (Some v)

-- no rotation: 0, 0, 0 and 1
abbrev pub is_unturned : V4 → Bool
is_unturned q = int_eq q.x (pos 0) && int_eq q.y (pos 0) && int_eq q.z (pos 0) && int_eq q.w one

abbrev pub differing_rotation : Option V4 → Option V4
differing_rotation None = None
differing_rotation (Some q) = cond (is_unturned q) None (Some q)

-- ---- messages

abbrev pub canonical_prop : PropDesc → PropDesc
canonical_prop d = record d { line = 0 }

abbrev pub canonical_comp_props : CompPropsDesc → CompPropsDesc
canonical_comp_props d = record d { line = 0; properties = map canonical_prop d.properties }

abbrev pub canonical_inst_props : InstPropsDesc → InstPropsDesc
canonical_inst_props d = record d { line = 0; properties = map canonical_comp_props d.properties }

abbrev pub canonical_ref : RefDesc → RefDesc
canonical_ref d = record d {
  line = 0;
  position = differing_vector (pos 0) d.position;
  rotation = differing_rotation d.rotation;
  properties = map canonical_prop d.properties;
}

abbrev pub canonical_embed : EmbedDesc → EmbedDesc
canonical_embed d = record d {
  line = 0;
  position = differing_vector (pos 0) d.position;
  rotation = differing_rotation d.rotation;
}

abbrev pub canonical_go : GoDesc → GoDesc
canonical_go d = record d {
  components = map canonical_ref d.components;
  embedded_components = map canonical_embed d.embedded_components;
}

abbrev pub canonical_child : ChildDesc → ChildDesc
canonical_child d = record d { line = 0 }

abbrev pub canonical_inst : InstDesc → InstDesc
canonical_inst d = record d {
  line = 0;
  children = map canonical_child d.children;
  position = differing_vector (pos 0) d.position;
  rotation = differing_rotation d.rotation;
  scale3 = differing_vector one d.scale3;
  component_properties = map canonical_comp_props d.component_properties;
}

abbrev pub canonical_embed_inst : EmbedInstDesc → EmbedInstDesc
canonical_embed_inst d = record d {
  line = 0;
  children = map canonical_child d.children;
  position = differing_vector (pos 0) d.position;
  rotation = differing_rotation d.rotation;
  scale3 = differing_vector one d.scale3;
}

abbrev pub canonical_coll_inst : CollInstDesc → CollInstDesc
canonical_coll_inst d = record d {
  line = 0;
  position = differing_vector (pos 0) d.position;
  rotation = differing_rotation d.rotation;
  scale3 = differing_vector one d.scale3;
  instance_properties = map canonical_inst_props d.instance_properties;
}

abbrev pub canonical_coll : CollDesc → CollDesc
canonical_coll d = record d {
  instances = map canonical_inst d.instances;
  embedded_instances = map canonical_embed_inst d.embedded_instances;
  collection_instances = map canonical_coll_inst d.collection_instances;
}
