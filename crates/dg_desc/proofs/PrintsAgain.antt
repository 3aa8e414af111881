-- The canonical form of a description is printed as the description is.
use Rattle.std.proofs.Common.{◌≡◌, List, [], ◌∷◌, ◌++◌, map, pos, refl}
use Rattle.dg_ptext.specs.declared.tree.Field.{Field}
use Rattle.dg_desc.specs.declared.known.FieldName.{FieldName}
use Rattle.dg_desc.specs.declared.known.FieldName.TheVariants as name
use Rattle.dg_desc.specs.declared.descs.PropDesc.{PropDesc}
use Rattle.dg_desc.specs.declared.descs.RefDesc.{RefDesc}
use Rattle.dg_desc.specs.declared.descs.EmbedDesc.{EmbedDesc}
use Rattle.dg_desc.specs.declared.descs.GoDesc.{GoDesc}
use Rattle.dg_desc.specs.declared.descs.CompPropsDesc.{CompPropsDesc}
use Rattle.dg_desc.specs.declared.descs.InstPropsDesc.{InstPropsDesc}
use Rattle.dg_desc.specs.declared.descs.InstDesc.{InstDesc}
use Rattle.dg_desc.specs.declared.descs.EmbedInstDesc.{EmbedInstDesc}
use Rattle.dg_desc.specs.declared.descs.CollInstDesc.{CollInstDesc}
use Rattle.dg_desc.specs.declared.descs.CollDesc.{CollDesc}
use Rattle.dg_desc.specs.Lookups.{one}
use Rattle.dg_desc.specs.Trees.{quoted, message, all_trees, switch_tree, prop_tree, comp_props_tree, inst_props_tree, ref_tree, embed_tree, go_tree, inst_tree, embed_inst_tree, coll_inst_tree, coll_tree}
use Rattle.dg_desc.specs.Canonical.{canonical_prop, canonical_comp_props, canonical_inst_props, canonical_ref, canonical_embed, canonical_go, canonical_inst, canonical_embed_inst, canonical_coll_inst, canonical_coll}
use Rattle.dg_desc.proofs.Vectors.{given_printed, rotation_printed}
use Rattle.dg_desc.proofs.WordValues.{children_printed}

all_printed : {D : Type 0} (prints : D → List Field) (canonical : D → D) (n : FieldName) → ((d : D) → prints (canonical d) ≡ prints d)
    → (all : List D) → all_trees prints n (map canonical all) ≡ all_trees prints n all
all_printed prints canonical n each [] = refl
all_printed prints canonical n each (d ∷ ds) = λ i. message n (each d i) ∷ all_printed prints canonical n each ds i

prop_printed : (d : PropDesc) → prop_tree (canonical_prop d) ≡ prop_tree d
prop_printed d = refl

comp_props_printed : (d : CompPropsDesc) → comp_props_tree (canonical_comp_props d) ≡ comp_props_tree d
comp_props_printed d =
    λ i. quoted name.Id d.id ∷ (all_printed prop_tree canonical_prop name.Properties prop_printed d.properties i ++ d.unknown)

inst_props_printed : (d : InstPropsDesc) → inst_props_tree (canonical_inst_props d) ≡ inst_props_tree d
inst_props_printed d =
    λ i. quoted name.Id d.id ∷ (all_printed comp_props_tree canonical_comp_props name.Properties comp_props_printed d.properties i ++ d.unknown)

ref_printed : (d : RefDesc) → ref_tree (canonical_ref d) ≡ ref_tree d
ref_printed d =
    λ i. quoted name.Id d.id ∷ quoted name.Component d.component
    ∷ (given_printed name.Position (pos 0) d.position i ++ rotation_printed d.rotation i
    ++ all_printed prop_tree canonical_prop name.Properties prop_printed d.properties i ++ d.unknown)

embed_printed : (d : EmbedDesc) → embed_tree (canonical_embed d) ≡ embed_tree d
embed_printed d =
    λ i. quoted name.Id d.id ∷ quoted name.Type d.kind ∷ quoted name.Data d.body
    ∷ (given_printed name.Position (pos 0) d.position i ++ rotation_printed d.rotation i ++ d.unknown)

pub go_printed : (d : GoDesc) → go_tree (canonical_go d) ≡ go_tree d
go_printed d =
    λ i. all_printed ref_tree canonical_ref name.Components ref_printed d.components i
    ++ all_printed embed_tree canonical_embed name.EmbeddedComponents embed_printed d.embedded_components i ++ d.unknown

inst_printed : (d : InstDesc) → inst_tree (canonical_inst d) ≡ inst_tree d
inst_printed d =
    λ i. quoted name.Id d.id ∷ quoted name.Prototype d.prototype
    ∷ (children_printed d.children i ++ given_printed name.Position (pos 0) d.position i ++ rotation_printed d.rotation i
    ++ given_printed name.Scale3 one d.scale3 i
    ++ all_printed comp_props_tree canonical_comp_props name.ComponentProperties comp_props_printed d.component_properties i ++ d.unknown)

embed_inst_printed : (d : EmbedInstDesc) → embed_inst_tree (canonical_embed_inst d) ≡ embed_inst_tree d
embed_inst_printed d =
    λ i. quoted name.Id d.id ∷ (children_printed d.children i ++ quoted name.Data d.body
    ∷ (given_printed name.Position (pos 0) d.position i ++ rotation_printed d.rotation i ++ given_printed name.Scale3 one d.scale3 i ++ d.unknown))

coll_inst_printed : (d : CollInstDesc) → coll_inst_tree (canonical_coll_inst d) ≡ coll_inst_tree d
coll_inst_printed d =
    λ i. quoted name.Id d.id ∷ quoted name.Collection d.collection
    ∷ (given_printed name.Position (pos 0) d.position i ++ rotation_printed d.rotation i ++ given_printed name.Scale3 one d.scale3 i
    ++ all_printed inst_props_tree canonical_inst_props name.InstanceProperties inst_props_printed d.instance_properties i ++ d.unknown)

pub coll_printed : (d : CollDesc) → coll_tree (canonical_coll d) ≡ coll_tree d
coll_printed d =
    λ i. quoted name.Name d.name ∷ (switch_tree name.ScaleAlongZ d.scale_along_z
    ++ all_printed inst_tree canonical_inst name.Instances inst_printed d.instances i
    ++ all_printed embed_inst_tree canonical_embed_inst name.EmbeddedInstances embed_inst_printed d.embedded_instances i
    ++ all_printed coll_inst_tree canonical_coll_inst name.CollectionInstances coll_inst_printed d.collection_instances i ++ d.unknown)
