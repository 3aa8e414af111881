-- What is printed of each message has no fault and reads as its canonical form.
use Rattle.std.proofs.Common.{◌≡◌, true, List, [], ◌∷◌, ◌++◌, map, pos, refl, ap, ◌∙◌, append_assoc}
use Rattle.std.specs.List.{AllByRecursion}
use Rattle.dg_ptext.specs.declared.tree.Field.{Field}
use Rattle.dg_desc.specs.declared.known.Message.TheVariants as messages
use Rattle.dg_desc.specs.declared.known.FieldName.TheVariants as name
use Rattle.dg_desc.specs.declared.descs.PropDesc.{PropDesc}
use Rattle.dg_desc.specs.declared.descs.RefDesc.{RefDesc}
use Rattle.dg_desc.specs.declared.descs.EmbedDesc.{EmbedDesc}
use Rattle.dg_desc.specs.declared.descs.GoDesc.{GoDesc}
use Rattle.dg_desc.specs.declared.descs.CompPropsDesc.{CompPropsDesc}
use Rattle.dg_desc.specs.declared.descs.InstPropsDesc.{InstPropsDesc}
use Rattle.dg_desc.specs.declared.descs.InstDesc.{InstDesc}
use Rattle.dg_desc.specs.declared.descs.EmbedInstDesc.{EmbedInstDesc}
use Rattle.dg_desc.specs.declared.descs.CollInstDesc.{CollInstDesc}
use Rattle.dg_desc.specs.declared.descs.CollDesc.{CollDesc}
use Rattle.dg_desc.specs.Words.{is_kind, type_word}
use Rattle.dg_desc.specs.Lookups.{one}
use Rattle.dg_desc.specs.Descs.{prop_of, comp_props_of, inst_props_of, ref_of, embed_of, go_of, inst_of, embed_inst_of, coll_inst_of, coll_of}
use Rattle.dg_desc.specs.Trees.{bare, quoted, all_trees, child_tree, position_tree, rotation_tree, scale3_tree, switch_tree, prop_tree, comp_props_tree, inst_props_tree, ref_tree, embed_tree, go_tree, inst_tree, embed_inst_tree, coll_inst_tree, coll_tree}
use Rattle.dg_desc.specs.Canonical.{canonical_prop, canonical_comp_props, canonical_inst_props, canonical_ref, canonical_embed, canonical_go, canonical_inst, canonical_embed_inst, canonical_coll_inst, canonical_coll}
use Rattle.dg_desc.proofs.Groups.{Group, AreUnknown}
use Rattle.dg_desc.proofs.Numbers.{text_group}
use Rattle.dg_desc.proofs.Vectors.{GivenVectorFits, GivenRotationFits, vector_group, rotation_group}
use Rattle.dg_desc.proofs.WordValues.{type_group, switch_group, children_group}
use Rattle.dg_desc.proofs.ReadAgain.{ReadsAgain, reads_again, messages_group, text_found, type_found, switch_found, position_found, rotation_found, scale3_found, children_found, messages_found, unknown_found}

-- ---- fields that are put behind each other

four : (a b c d : List Field) → a ++ b ++ c ++ d ≡ a ++ (b ++ (c ++ d))
four a b c d = append_assoc (a ++ b) c d ∙ append_assoc a b (c ++ d)

five : (a b c d e : List Field) → a ++ b ++ c ++ d ++ e ≡ a ++ (b ++ (c ++ (d ++ e)))
five a b c d e = append_assoc (a ++ b ++ c) d e ∙ four a b c (d ++ e)

six : (a b c d e f : List Field) → a ++ b ++ c ++ d ++ e ++ f ≡ a ++ (b ++ (c ++ (d ++ (e ++ f))))
six a b c d e f = append_assoc (a ++ b ++ c ++ d) e f ∙ five a b c d (e ++ f)

-- ---- properties

abbrev pub PropAgain : PropDesc → Type 0
PropAgain = ReadsAgain messages.Prop prop_of prop_tree canonical_prop

abbrev prop_groups : PropDesc → List Group
prop_groups d =
    (name.Id, quoted name.Id d.id ∷ []) ∷ (name.Value, quoted name.Value d.value ∷ [])
    ∷ (name.Type, bare name.Type (type_word d.kind) ∷ []) ∷ []

pub prop_again : (d : PropDesc) → AreUnknown messages.Prop d.unknown → PropAgain d
prop_again d unknown =
    let id = text_group messages.Prop name.Id d.id refl refl in
    let value = text_group messages.Prop name.Value d.value refl refl in
    let type = type_group d.kind in
    reads_again messages.Prop prop_of prop_tree canonical_prop d (prop_groups d) d.unknown refl unknown
    (id, (value, (type, tt)))
    refl
    refl
    (λ w i. record {
      line = 0;
      id = text_found w name.Id d.id refl refl i;
      value = text_found w name.Value d.value refl refl i;
      kind = type_found w d.kind refl refl i;
      unknown = unknown_found w i;
    })

abbrev pub CompPropsAgain : CompPropsDesc → Type 0
CompPropsAgain = ReadsAgain messages.CompProps comp_props_of comp_props_tree canonical_comp_props

abbrev comp_props_groups : CompPropsDesc → List Group
comp_props_groups d =
    (name.Id, quoted name.Id d.id ∷ []) ∷ (name.Properties, all_trees prop_tree name.Properties d.properties) ∷ []

pub comp_props_again : (d : CompPropsDesc) → AreUnknown messages.CompProps d.unknown
    → AllByRecursion PropAgain d.properties → CompPropsAgain d
comp_props_again d unknown all =
    let id = text_group messages.CompProps name.Id d.id refl refl in
    let properties =
    messages_group messages.CompProps messages.Prop name.Properties
    prop_of prop_tree canonical_prop refl refl d.properties all in
    reads_again messages.CompProps comp_props_of comp_props_tree canonical_comp_props d (comp_props_groups d) d.unknown refl unknown
    (id, (properties, tt))
    refl
    refl
    (λ w i. record {
      line = 0;
      id = text_found w name.Id d.id refl refl i;
      properties =
          messages_found w messages.Prop name.Properties
          prop_of prop_tree canonical_prop d.properties all refl refl i;
      unknown = unknown_found w i;
    })

abbrev pub InstPropsAgain : InstPropsDesc → Type 0
InstPropsAgain = ReadsAgain messages.InstProps inst_props_of inst_props_tree canonical_inst_props

abbrev inst_props_groups : InstPropsDesc → List Group
inst_props_groups d =
    (name.Id, quoted name.Id d.id ∷ []) ∷ (name.Properties, all_trees comp_props_tree name.Properties d.properties) ∷ []

pub inst_props_again : (d : InstPropsDesc) → AreUnknown messages.InstProps d.unknown
    → AllByRecursion CompPropsAgain d.properties → InstPropsAgain d
inst_props_again d unknown all =
    let id = text_group messages.InstProps name.Id d.id refl refl in
    let properties =
    messages_group messages.InstProps messages.CompProps name.Properties
    comp_props_of comp_props_tree canonical_comp_props refl refl d.properties all in
    reads_again messages.InstProps inst_props_of inst_props_tree canonical_inst_props d (inst_props_groups d) d.unknown refl unknown
    (id, (properties, tt))
    refl
    refl
    (λ w i. record {
      line = 0;
      id = text_found w name.Id d.id refl refl i;
      properties =
          messages_found w messages.CompProps name.Properties
          comp_props_of comp_props_tree canonical_comp_props d.properties all refl refl i;
      unknown = unknown_found w i;
    })

-- ---- components and game objects

abbrev pub RefAgain : RefDesc → Type 0
RefAgain = ReadsAgain messages.Ref ref_of ref_tree canonical_ref

abbrev ref_groups : RefDesc → List Group
ref_groups d =
    (name.Id, quoted name.Id d.id ∷ []) ∷ (name.Component, quoted name.Component d.component ∷ [])
    ∷ (name.Position, position_tree d.position) ∷ (name.Rotation, rotation_tree d.rotation)
    ∷ (name.Properties, all_trees prop_tree name.Properties d.properties) ∷ []

pub ref_again : (d : RefDesc) → AreUnknown messages.Ref d.unknown → GivenVectorFits d.position
    → GivenRotationFits d.rotation → AllByRecursion PropAgain d.properties → RefAgain d
ref_again d unknown p r all =
    let id = text_group messages.Ref name.Id d.id refl refl in
    let component = text_group messages.Ref name.Component d.component refl refl in
    let position = vector_group messages.Ref name.Position (pos 0) d.position refl refl p in
    let rotation = rotation_group messages.Ref d.rotation refl refl r in
    let properties =
    messages_group messages.Ref messages.Prop name.Properties
    prop_of prop_tree canonical_prop refl refl d.properties all in
    reads_again messages.Ref ref_of ref_tree canonical_ref d (ref_groups d) d.unknown refl unknown
    (id, (component, (position, (rotation, (properties, tt)))))
    (ap (λ (rest : List Field). quoted name.Id d.id ∷ quoted name.Component d.component ∷ rest)
    (four (position_tree d.position) (rotation_tree d.rotation) (all_trees prop_tree name.Properties d.properties) d.unknown))
    refl
    (λ w i. record {
      line = 0;
      id = text_found w name.Id d.id refl refl i;
      component = text_found w name.Component d.component refl refl i;
      position = position_found w d.position p refl refl i;
      rotation = rotation_found w d.rotation r refl refl i;
      properties =
          messages_found w messages.Prop name.Properties
          prop_of prop_tree canonical_prop d.properties all refl refl i;
      unknown = unknown_found w i;
    })

abbrev pub EmbedAgain : EmbedDesc → Type 0
EmbedAgain = ReadsAgain messages.Embed embed_of embed_tree canonical_embed

abbrev embed_groups : EmbedDesc → List Group
embed_groups d =
    (name.Id, quoted name.Id d.id ∷ []) ∷ (name.Type, quoted name.Type d.kind ∷ [])
    ∷ (name.Data, quoted name.Data d.body ∷ []) ∷ (name.Position, position_tree d.position)
    ∷ (name.Rotation, rotation_tree d.rotation) ∷ []

pub embed_again : (d : EmbedDesc) → AreUnknown messages.Embed d.unknown → is_kind d.kind ≡ true
    → GivenVectorFits d.position → GivenRotationFits d.rotation → EmbedAgain d
embed_again d unknown kind p r =
    let id = text_group messages.Embed name.Id d.id refl refl in
    let the_kind = text_group messages.Embed name.Type d.kind refl kind in
    let body = text_group messages.Embed name.Data d.body refl refl in
    let position = vector_group messages.Embed name.Position (pos 0) d.position refl refl p in
    let rotation = rotation_group messages.Embed d.rotation refl refl r in
    reads_again messages.Embed embed_of embed_tree canonical_embed d (embed_groups d) d.unknown refl unknown
    (id, (the_kind, (body, (position, (rotation, tt)))))
    (ap (λ (rest : List Field). quoted name.Id d.id ∷ quoted name.Type d.kind ∷ quoted name.Data d.body ∷ rest)
    (append_assoc (position_tree d.position) (rotation_tree d.rotation) d.unknown))
    refl
    (λ w i. record {
      line = 0;
      id = text_found w name.Id d.id refl refl i;
      kind = text_found w name.Type d.kind refl refl i;
      body = text_found w name.Data d.body refl refl i;
      position = position_found w d.position p refl refl i;
      rotation = rotation_found w d.rotation r refl refl i;
      unknown = unknown_found w i;
    })

abbrev pub GoAgain : GoDesc → Type 0
GoAgain = ReadsAgain messages.Go (λ line. go_of) go_tree canonical_go

abbrev go_groups : GoDesc → List Group
go_groups d =
    (name.Components, all_trees ref_tree name.Components d.components)
    ∷ (name.EmbeddedComponents, all_trees embed_tree name.EmbeddedComponents d.embedded_components) ∷ []

pub go_again : (d : GoDesc) → AreUnknown messages.Go d.unknown → AllByRecursion RefAgain d.components
    → AllByRecursion EmbedAgain d.embedded_components → GoAgain d
go_again d unknown components embedded_components =
    let the_components =
    messages_group messages.Go messages.Ref name.Components
    ref_of ref_tree canonical_ref refl refl d.components components in
    let the_embedded_components =
    messages_group messages.Go messages.Embed name.EmbeddedComponents
    embed_of embed_tree canonical_embed refl refl d.embedded_components embedded_components in
    reads_again messages.Go (λ line. go_of) go_tree canonical_go d (go_groups d) d.unknown refl unknown
    (the_components, (the_embedded_components, tt))
    (append_assoc (all_trees ref_tree name.Components d.components)
    (all_trees embed_tree name.EmbeddedComponents d.embedded_components) d.unknown)
    refl
    (λ w i. record {
      components =
          messages_found w messages.Ref name.Components
          ref_of ref_tree canonical_ref d.components components refl refl i;
      embedded_components =
          messages_found w messages.Embed name.EmbeddedComponents
          embed_of embed_tree canonical_embed d.embedded_components embedded_components refl refl i;
      unknown = unknown_found w i;
    })

-- ---- instances and collections

abbrev pub InstAgain : InstDesc → Type 0
InstAgain = ReadsAgain messages.Inst inst_of inst_tree canonical_inst

abbrev inst_groups : InstDesc → List Group
inst_groups d =
    (name.Id, quoted name.Id d.id ∷ []) ∷ (name.Prototype, quoted name.Prototype d.prototype ∷ [])
    ∷ (name.Children, map child_tree d.children) ∷ (name.Position, position_tree d.position)
    ∷ (name.Rotation, rotation_tree d.rotation) ∷ (name.Scale3, scale3_tree d.scale3)
    ∷ (name.ComponentProperties, all_trees comp_props_tree name.ComponentProperties d.component_properties) ∷ []

pub inst_again : (d : InstDesc) → AreUnknown messages.Inst d.unknown → GivenVectorFits d.position
    → GivenRotationFits d.rotation → GivenVectorFits d.scale3 → AllByRecursion CompPropsAgain d.component_properties
    → InstAgain d
inst_again d unknown p r s all =
    let id = text_group messages.Inst name.Id d.id refl refl in
    let prototype = text_group messages.Inst name.Prototype d.prototype refl refl in
    let children = children_group messages.Inst refl refl d.children in
    let position = vector_group messages.Inst name.Position (pos 0) d.position refl refl p in
    let rotation = rotation_group messages.Inst d.rotation refl refl r in
    let scale3 = vector_group messages.Inst name.Scale3 one d.scale3 refl refl s in
    let component_properties =
    messages_group messages.Inst messages.CompProps name.ComponentProperties
    comp_props_of comp_props_tree canonical_comp_props refl refl d.component_properties all in
    reads_again messages.Inst inst_of inst_tree canonical_inst d (inst_groups d) d.unknown refl unknown
    (id, (prototype, (children, (position, (rotation, (scale3, (component_properties, tt)))))))
    (ap (λ (rest : List Field). quoted name.Id d.id ∷ quoted name.Prototype d.prototype ∷ rest)
    (six (map child_tree d.children) (position_tree d.position) (rotation_tree d.rotation) (scale3_tree d.scale3)
    (all_trees comp_props_tree name.ComponentProperties d.component_properties) d.unknown))
    refl
    (λ w i. record {
      line = 0;
      id = text_found w name.Id d.id refl refl i;
      prototype = text_found w name.Prototype d.prototype refl refl i;
      children = children_found w d.children refl refl i;
      position = position_found w d.position p refl refl i;
      rotation = rotation_found w d.rotation r refl refl i;
      scale3 = scale3_found w d.scale3 s refl refl refl refl i;
      component_properties =
          messages_found w messages.CompProps name.ComponentProperties
          comp_props_of comp_props_tree canonical_comp_props d.component_properties all refl refl i;
      unknown = unknown_found w i;
    })

abbrev pub EmbedInstAgain : EmbedInstDesc → Type 0
EmbedInstAgain = ReadsAgain messages.EmbedInst embed_inst_of embed_inst_tree canonical_embed_inst

abbrev embed_inst_groups : EmbedInstDesc → List Group
embed_inst_groups d =
    (name.Id, quoted name.Id d.id ∷ []) ∷ (name.Children, map child_tree d.children)
    ∷ (name.Data, quoted name.Data d.body ∷ []) ∷ (name.Position, position_tree d.position)
    ∷ (name.Rotation, rotation_tree d.rotation) ∷ (name.Scale3, scale3_tree d.scale3) ∷ []

pub embed_inst_again : (d : EmbedInstDesc) → AreUnknown messages.EmbedInst d.unknown → GivenVectorFits d.position
    → GivenRotationFits d.rotation → GivenVectorFits d.scale3 → EmbedInstAgain d
embed_inst_again d unknown p r s =
    let id = text_group messages.EmbedInst name.Id d.id refl refl in
    let children = children_group messages.EmbedInst refl refl d.children in
    let body = text_group messages.EmbedInst name.Data d.body refl refl in
    let position = vector_group messages.EmbedInst name.Position (pos 0) d.position refl refl p in
    let rotation = rotation_group messages.EmbedInst d.rotation refl refl r in
    let scale3 = vector_group messages.EmbedInst name.Scale3 one d.scale3 refl refl s in
    reads_again messages.EmbedInst embed_inst_of embed_inst_tree canonical_embed_inst d (embed_inst_groups d) d.unknown refl unknown
    (id, (children, (body, (position, (rotation, (scale3, tt))))))
    (ap (λ (rest : List Field). quoted name.Id d.id ∷ (map child_tree d.children ++ quoted name.Data d.body ∷ rest))
    (four (position_tree d.position) (rotation_tree d.rotation) (scale3_tree d.scale3) d.unknown))
    refl
    (λ w i. record {
      line = 0;
      id = text_found w name.Id d.id refl refl i;
      children = children_found w d.children refl refl i;
      body = text_found w name.Data d.body refl refl i;
      position = position_found w d.position p refl refl i;
      rotation = rotation_found w d.rotation r refl refl i;
      scale3 = scale3_found w d.scale3 s refl refl refl refl i;
      unknown = unknown_found w i;
    })

abbrev pub CollInstAgain : CollInstDesc → Type 0
CollInstAgain = ReadsAgain messages.CollInst coll_inst_of coll_inst_tree canonical_coll_inst

abbrev coll_inst_groups : CollInstDesc → List Group
coll_inst_groups d =
    (name.Id, quoted name.Id d.id ∷ []) ∷ (name.Collection, quoted name.Collection d.collection ∷ [])
    ∷ (name.Position, position_tree d.position) ∷ (name.Rotation, rotation_tree d.rotation)
    ∷ (name.Scale3, scale3_tree d.scale3)
    ∷ (name.InstanceProperties, all_trees inst_props_tree name.InstanceProperties d.instance_properties) ∷ []

pub coll_inst_again : (d : CollInstDesc) → AreUnknown messages.CollInst d.unknown → GivenVectorFits d.position
    → GivenRotationFits d.rotation → GivenVectorFits d.scale3 → AllByRecursion InstPropsAgain d.instance_properties
    → CollInstAgain d
coll_inst_again d unknown p r s all =
    let id = text_group messages.CollInst name.Id d.id refl refl in
    let collection = text_group messages.CollInst name.Collection d.collection refl refl in
    let position = vector_group messages.CollInst name.Position (pos 0) d.position refl refl p in
    let rotation = rotation_group messages.CollInst d.rotation refl refl r in
    let scale3 = vector_group messages.CollInst name.Scale3 one d.scale3 refl refl s in
    let instance_properties =
    messages_group messages.CollInst messages.InstProps name.InstanceProperties
    inst_props_of inst_props_tree canonical_inst_props refl refl d.instance_properties all in
    reads_again messages.CollInst coll_inst_of coll_inst_tree canonical_coll_inst d (coll_inst_groups d) d.unknown refl unknown
    (id, (collection, (position, (rotation, (scale3, (instance_properties, tt))))))
    (ap (λ (rest : List Field). quoted name.Id d.id ∷ quoted name.Collection d.collection ∷ rest)
    (five (position_tree d.position) (rotation_tree d.rotation) (scale3_tree d.scale3)
    (all_trees inst_props_tree name.InstanceProperties d.instance_properties) d.unknown))
    refl
    (λ w i. record {
      line = 0;
      id = text_found w name.Id d.id refl refl i;
      collection = text_found w name.Collection d.collection refl refl i;
      position = position_found w d.position p refl refl i;
      rotation = rotation_found w d.rotation r refl refl i;
      scale3 = scale3_found w d.scale3 s refl refl refl refl i;
      instance_properties =
          messages_found w messages.InstProps name.InstanceProperties
          inst_props_of inst_props_tree canonical_inst_props d.instance_properties all refl refl i;
      unknown = unknown_found w i;
    })

abbrev pub CollAgain : CollDesc → Type 0
CollAgain = ReadsAgain messages.Coll (λ line. coll_of) coll_tree canonical_coll

abbrev coll_groups : CollDesc → List Group
coll_groups d =
    (name.Name, quoted name.Name d.name ∷ []) ∷ (name.ScaleAlongZ, switch_tree name.ScaleAlongZ d.scale_along_z)
    ∷ (name.Instances, all_trees inst_tree name.Instances d.instances)
    ∷ (name.EmbeddedInstances, all_trees embed_inst_tree name.EmbeddedInstances d.embedded_instances)
    ∷ (name.CollectionInstances, all_trees coll_inst_tree name.CollectionInstances d.collection_instances) ∷ []

pub coll_again : (d : CollDesc) → AreUnknown messages.Coll d.unknown → AllByRecursion InstAgain d.instances
    → AllByRecursion EmbedInstAgain d.embedded_instances → AllByRecursion CollInstAgain d.collection_instances
    → CollAgain d
coll_again d unknown instances embedded_instances collection_instances =
    let the_name = text_group messages.Coll name.Name d.name refl refl in
    let switch = switch_group d.scale_along_z in
    let the_instances =
    messages_group messages.Coll messages.Inst name.Instances
    inst_of inst_tree canonical_inst refl refl d.instances instances in
    let the_embedded_instances =
    messages_group messages.Coll messages.EmbedInst name.EmbeddedInstances
    embed_inst_of embed_inst_tree canonical_embed_inst refl refl d.embedded_instances embedded_instances in
    let the_collection_instances =
    messages_group messages.Coll messages.CollInst name.CollectionInstances
    coll_inst_of coll_inst_tree canonical_coll_inst refl refl d.collection_instances collection_instances in
    reads_again messages.Coll (λ line. coll_of) coll_tree canonical_coll d (coll_groups d) d.unknown refl unknown
    (the_name, (switch, (the_instances, (the_embedded_instances, (the_collection_instances, tt)))))
    (ap (λ (rest : List Field). quoted name.Name d.name ∷ rest)
    (five (switch_tree name.ScaleAlongZ d.scale_along_z) (all_trees inst_tree name.Instances d.instances)
    (all_trees embed_inst_tree name.EmbeddedInstances d.embedded_instances)
    (all_trees coll_inst_tree name.CollectionInstances d.collection_instances) d.unknown))
    refl
    (λ w i. record {
      name = text_found w name.Name d.name refl refl i;
      scale_along_z = switch_found w d.scale_along_z refl refl i;
      instances =
          messages_found w messages.Inst name.Instances
          inst_of inst_tree canonical_inst d.instances instances refl refl i;
      embedded_instances =
          messages_found w messages.EmbedInst name.EmbeddedInstances
          embed_inst_of embed_inst_tree canonical_embed_inst d.embedded_instances embedded_instances refl refl i;
      collection_instances =
          messages_found w messages.CollInst name.CollectionInstances
          coll_inst_of coll_inst_tree canonical_coll_inst d.collection_instances collection_instances refl refl i;
      unknown = unknown_found w i;
    })
