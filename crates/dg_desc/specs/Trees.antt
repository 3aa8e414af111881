-- The one tree that a description is printed as: the known fields of each message in canonical order, and behind them
-- the unknown ones as they were. No field has a line.
use Rattle.std.specs.Prelude.{ℕ, List, [], ◌∷◌, ◌++◌, Bool, cond, map, length, ◌==◌, ℤ, pos, Option, Some, None, codes}
use Rattle.std.specs.Ordering.{int_eq}
use Rattle.dg_base.specs.declared.datum.V3.{V3}
use Rattle.dg_base.specs.declared.datum.V4.{V4}
use Rattle.dg_decimal.specs.Canonical.{canonical}
use Rattle.dg_ptext.specs.declared.tree.Field.{Field}
use Rattle.dg_ptext.specs.declared.tree.Value.{Value}
use Rattle.dg_ptext.specs.declared.tree.Value.TheVariants as value
use Rattle.dg_desc.specs.declared.known.FieldName.{FieldName}
use Rattle.dg_desc.specs.declared.known.FieldName.TheVariants as name
use Rattle.dg_desc.specs.declared.descs.PropDesc.{PropDesc}
use Rattle.dg_desc.specs.declared.descs.RefDesc.{RefDesc}
use Rattle.dg_desc.specs.declared.descs.EmbedDesc.{EmbedDesc}
use Rattle.dg_desc.specs.declared.descs.GoDesc.{GoDesc}
use Rattle.dg_desc.specs.declared.descs.ChildDesc.{ChildDesc}
use Rattle.dg_desc.specs.declared.descs.CompPropsDesc.{CompPropsDesc}
use Rattle.dg_desc.specs.declared.descs.InstPropsDesc.{InstPropsDesc}
use Rattle.dg_desc.specs.declared.descs.InstDesc.{InstDesc}
use Rattle.dg_desc.specs.declared.descs.EmbedInstDesc.{EmbedInstDesc}
use Rattle.dg_desc.specs.declared.descs.CollInstDesc.{CollInstDesc}
use Rattle.dg_desc.specs.declared.descs.CollDesc.{CollDesc}
use Rattle.dg_desc.specs.Known.{label_of}
use Rattle.dg_desc.specs.Words.{type_word}
use Rattle.dg_desc.specs.Lookups.{one}

-- ---- single fields

abbrev pub field : FieldName → Value → Field
field n v = record { name = label_of n; line = 0; value = v }

abbrev pub bare : FieldName → List ℕ → Field
bare n word = field n (value.Bare word)

abbrev pub quoted : FieldName → List ℕ → Field
quoted n text = field n (value.Quoted text)

abbrev pub message : FieldName → List Field → Field
message n fields = field n (value.Message fields)

-- ---- what is left out where it is the default

-- a number that isn't the default
abbrev pub differing : FieldName → ℤ → ℤ → List Field
differing n other z = cond (int_eq z other) [] (bare n (canonical z) ∷ [])

abbrev pub unless_empty : FieldName → List Field → List Field
unless_empty n fields = cond (length fields == 0) [] (message n fields ∷ [])

abbrev pub vector_fields : ℤ → V3 → List Field
vector_fields other v = differing name.X other v.x ++ differing name.Y other v.y ++ differing name.Z other v.z

abbrev pub vector_tree : FieldName → ℤ → Option V3 → List Field
vector_tree n other None = []
vector_tree n other (Some v) = unless_empty n (vector_fields other v)

abbrev pub quaternion_fields : V4 → List Field
quaternion_fields q =
    differing name.X (pos 0) q.x ++ differing name.Y (pos 0) q.y ++ differing name.Z (pos 0) q.z ++ differing name.W one q.w

abbrev pub position_tree : Option V3 → List Field
position_tree v = vector_tree name.Position (pos 0) v

abbrev pub rotation_tree : Option V4 → List Field
rotation_tree None = []
rotation_tree (Some q) = unless_empty name.Rotation (quaternion_fields q)

-- a scale is always printed as three
abbrev pub scale3_tree : Option V3 → List Field
scale3_tree v = vector_tree name.Scale3 one v

abbrev pub switch_tree : FieldName → Bool → List Field
switch_tree n on = cond on (bare n (codes "1") ∷ []) []

-- ---- messages

abbrev pub all_trees : {D : Type 0} → (D → List Field) → FieldName → List D → List Field
all_trees fields n all = map (λ d. message n (fields d)) all

abbrev pub prop_tree : PropDesc → List Field
prop_tree d = quoted name.Id d.id ∷ quoted name.Value d.value ∷ bare name.Type (type_word d.kind) ∷ d.unknown

abbrev pub comp_props_tree : CompPropsDesc → List Field
comp_props_tree d = quoted name.Id d.id ∷ (all_trees prop_tree name.Properties d.properties ++ d.unknown)

abbrev pub inst_props_tree : InstPropsDesc → List Field
inst_props_tree d = quoted name.Id d.id ∷ (all_trees comp_props_tree name.Properties d.properties ++ d.unknown)

abbrev pub ref_tree : RefDesc → List Field
ref_tree d =
    quoted name.Id d.id ∷ quoted name.Component d.component ∷ (position_tree d.position ++ rotation_tree d.rotation
    ++ all_trees prop_tree name.Properties d.properties ++ d.unknown)

abbrev pub embed_tree : EmbedDesc → List Field
embed_tree d =
    quoted name.Id d.id ∷ quoted name.Type d.kind ∷ quoted name.Data d.body
    ∷ (position_tree d.position ++ rotation_tree d.rotation ++ d.unknown)

abbrev pub go_tree : GoDesc → List Field
go_tree d =
    all_trees ref_tree name.Components d.components ++ all_trees embed_tree name.EmbeddedComponents d.embedded_components
    ++ d.unknown

abbrev pub child_tree : ChildDesc → Field
child_tree d = quoted name.Children d.id

abbrev pub inst_tree : InstDesc → List Field
inst_tree d =
    quoted name.Id d.id ∷ quoted name.Prototype d.prototype ∷ (map child_tree d.children ++ position_tree d.position
    ++ rotation_tree d.rotation ++ scale3_tree d.scale3
    ++ all_trees comp_props_tree name.ComponentProperties d.component_properties ++ d.unknown)

abbrev pub embed_inst_tree : EmbedInstDesc → List Field
embed_inst_tree d =
    quoted name.Id d.id ∷ (map child_tree d.children ++ quoted name.Data d.body ∷ (position_tree d.position
    ++ rotation_tree d.rotation ++ scale3_tree d.scale3 ++ d.unknown))

abbrev pub coll_inst_tree : CollInstDesc → List Field
coll_inst_tree d =
    quoted name.Id d.id ∷ quoted name.Collection d.collection ∷ (position_tree d.position ++ rotation_tree d.rotation
    ++ scale3_tree d.scale3 ++ all_trees inst_props_tree name.InstanceProperties d.instance_properties ++ d.unknown)

abbrev pub coll_tree : CollDesc → List Field
coll_tree d =
    quoted name.Name d.name ∷ (switch_tree name.ScaleAlongZ d.scale_along_z
    ++ all_trees inst_tree name.Instances d.instances
    ++ all_trees embed_inst_tree name.EmbeddedInstances d.embedded_instances
    ++ all_trees coll_inst_tree name.CollectionInstances d.collection_instances ++ d.unknown)
