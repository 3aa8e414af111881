-- What two trees say that are the same but for lines is printed as trees that are the same but for lines, and these as
-- the same text.
use Rattle.std.proofs.Common.{◌≡◌, ℕ, ◌==◌, Bool, true, false, cond, List, [], ◌∷◌, ◌++◌, length, map, ℤ, pos, Option, Some, None, refl, ap, sym, subst, ◌∙◌}
use Rattle.std.specs.Ordering.{int_eq}
use Rattle.dg_base.specs.declared.datum.V3.{V3}
use Rattle.dg_base.specs.declared.datum.V4.{V4}
use Rattle.dg_decimal.specs.Canonical.{canonical}
use Rattle.dg_ptext.specs.declared.tree.Field.{Field}
use Rattle.dg_ptext.specs.declared.tree.Value.{Value}
use Rattle.dg_ptext.specs.declared.tree.Value.TheVariants as value
use Rattle.dg_ptext.specs.Printed.{printed, printed_value}
use Rattle.dg_ptext.specs.Same.{SameFields, SameValue}
use Rattle.dg_ptext.specs.Same.SameFields.{none, one_more}
use Rattle.dg_ptext.specs.Same.SameValue.{bare as same_bare, quoted as same_quoted, message as same_message}
use Rattle.dg_ptext.proofs.Trees.{printed-Message}
use Rattle.dg_desc.specs.declared.known.Message.TheVariants as messages
use Rattle.dg_desc.specs.declared.known.FieldName.{FieldName}
use Rattle.dg_desc.specs.declared.known.FieldName.TheVariants as name
use Rattle.dg_desc.specs.Words.{type_word}
use Rattle.dg_desc.specs.Lookups.{last_value, fields_named, fields_in, text_of, type_in, switch_in, one, position_of, rotation_of, scale3_of}
use Rattle.dg_desc.specs.Descs.{all_of, child_of, children_of, prop_of, comp_props_of, inst_props_of, ref_of, embed_of, go_of, inst_of, embed_inst_of, coll_inst_of, coll_of}
use Rattle.dg_desc.specs.Trees.{bare, quoted, message, differing, vector_fields, vector_tree, quaternion_fields, position_tree, rotation_tree, scale3_tree, switch_tree, all_trees, child_tree, prop_tree, comp_props_tree, inst_props_tree, ref_tree, embed_tree, go_tree, inst_tree, embed_inst_tree, coll_inst_tree, coll_tree}
use Rattle.dg_desc.proofs.SameTrees.{SameField, AreSame, from_same, same_behind, named_same, unknown_same, text_same, inner_same, texts_same, types_same, switches_same, positions_same, rotations_same, scales_same}

-- ---- texts

mutual
  pub printed_same : (margin : List ℕ) (xs ys : List Field) → SameFields xs ys → printed margin xs ≡ printed margin ys
  printed_same margin xs ys (none _ _ e f) = ap (printed margin) e ∙ sym (ap (printed margin) f)
  printed_same margin xs ys (one_more _ _ label line other v w more others same rest e f) =
      ap (printed margin) e
      ∙ ((λ i. (margin ++ label ++ value_printed margin v w same i) ++ printed_same margin more others rest i)
      ∙ sym (ap (printed margin) f))

  value_printed : (margin : List ℕ) (v w : Value) → SameValue v w → printed_value margin v ≡ printed_value margin w
  value_printed margin v w (same_bare _ _ word e f) = ap (printed_value margin) e ∙ sym (ap (printed_value margin) f)
  value_printed margin v w (same_quoted _ _ text e f) = ap (printed_value margin) e ∙ sym (ap (printed_value margin) f)
  value_printed margin v w (same_message _ _ fields others same e f) =
      ap (printed_value margin) e
      ∙ (printed-Message margin fields
      ∙ (ap (λ (text : List ℕ). 32 ∷ 123 ∷ 10 ∷ text ++ margin ++ 125 ∷ 10 ∷ []) (printed_same (margin ++ 32 ∷ 32 ∷ []) fields others same)
      ∙ (sym (printed-Message margin others) ∙ sym (ap (printed_value margin) f))))

-- ---- fields

text_field : (n : FieldName) (text other : List ℕ) → text ≡ other → SameField (quoted n text) (quoted n other)
text_field n text other e = (refl, same_quoted (value.Quoted text) (value.Quoted other) text refl (ap value.Quoted (sym e)))

word_field : (n : FieldName) (word other : List ℕ) → word ≡ other → SameField (bare n word) (bare n other)
word_field n word other e = (refl, same_bare (value.Bare word) (value.Bare other) word refl (ap value.Bare (sym e)))

message_field : (n : FieldName) (xs ys : List Field) → AreSame xs ys → SameField (message n xs) (message n ys)
message_field n xs ys h = (refl, same_message (value.Message xs) (value.Message ys) xs ys (from_same xs ys h) refl refl)

number_field : (n : FieldName) (other z : ℤ) → AreSame (differing n other z) (differing n other z)
number_field n other z = by_test (int_eq z other)
  where
    by_test : (b : Bool) → AreSame (cond b [] (bare n (canonical z) ∷ [])) (cond b [] (bare n (canonical z) ∷ []))
    by_test true = tt
    by_test false = (word_field n (canonical z) (canonical z) refl, tt)

message_if_any : (n : FieldName) (fields : List Field) → AreSame fields fields → (b : Bool)
    → AreSame (cond b [] (message n fields ∷ [])) (cond b [] (message n fields ∷ []))
message_if_any n fields h true = tt
message_if_any n fields h false = (message_field n fields fields h, tt)

vector_same : (n : FieldName) (other : ℤ) (p : Option V3) → AreSame (vector_tree n other p) (vector_tree n other p)
vector_same n other None = tt
vector_same n other (Some v) =
    let x = differing name.X other v.x in
    let y = differing name.Y other v.y in
    let z = differing name.Z other v.z in
    message_if_any n (vector_fields other v)
    (same_behind (x ++ y) (x ++ y) z z
    (same_behind x x y y (number_field name.X other v.x) (number_field name.Y other v.y)) (number_field name.Z other v.z))
    (length (vector_fields other v) == 0)

turned_same : (p : Option V4) → AreSame (rotation_tree p) (rotation_tree p)
turned_same None = tt
turned_same (Some q) =
    let x = differing name.X (pos 0) q.x in
    let y = differing name.Y (pos 0) q.y in
    let z = differing name.Z (pos 0) q.z in
    let w = differing name.W one q.w in
    message_if_any name.Rotation (quaternion_fields q)
    (same_behind (x ++ y ++ z) (x ++ y ++ z) w w
    (same_behind (x ++ y) (x ++ y) z z
    (same_behind x x y y (number_field name.X (pos 0) q.x) (number_field name.Y (pos 0) q.y)) (number_field name.Z (pos 0) q.z))
    (number_field name.W one q.w))
    (length (quaternion_fields q) == 0)

position_same : (xs ys : List Field) → AreSame xs ys → AreSame (position_tree (position_of xs)) (position_tree (position_of ys))
position_same xs ys h =
    subst (λ (p : Option V3). AreSame (position_tree (position_of xs)) (position_tree p)) (positions_same xs ys h)
    (vector_same name.Position (pos 0) (position_of xs))

rotation_same : (xs ys : List Field) → AreSame xs ys → AreSame (rotation_tree (rotation_of xs)) (rotation_tree (rotation_of ys))
rotation_same xs ys h =
    subst (λ (p : Option V4). AreSame (rotation_tree (rotation_of xs)) (rotation_tree p)) (rotations_same xs ys h) (turned_same (rotation_of xs))

scale3_same : (xs ys : List Field) → AreSame xs ys → AreSame (scale3_tree (scale3_of xs)) (scale3_tree (scale3_of ys))
scale3_same xs ys h =
    subst (λ (p : Option V3). AreSame (scale3_tree (scale3_of xs)) (scale3_tree p)) (scales_same xs ys h)
    (vector_same name.Scale3 one (scale3_of xs))

switch_same : (xs ys : List Field) → AreSame xs ys
    → AreSame (switch_tree name.ScaleAlongZ (switch_in (last_value name.ScaleAlongZ xs))) (switch_tree name.ScaleAlongZ (switch_in (last_value name.ScaleAlongZ ys)))
switch_same xs ys h =
    let on = switch_in (last_value name.ScaleAlongZ xs) in
    subst (λ (b : Bool). AreSame (switch_tree name.ScaleAlongZ on) (switch_tree name.ScaleAlongZ b)) (switches_same name.ScaleAlongZ xs ys h) (by_test on)
  where
    by_test : (b : Bool) → AreSame (switch_tree name.ScaleAlongZ b) (switch_tree name.ScaleAlongZ b)
    by_test true = (word_field name.ScaleAlongZ (49 ∷ []) (49 ∷ []) refl, tt)
    by_test false = tt

each_child_same : (xs ys : List Field) → AreSame xs ys → AreSame (map child_tree (map child_of xs)) (map child_tree (map child_of ys))
each_child_same [] [] h = tt
each_child_same [] (y ∷ ys) h = absurd h
each_child_same (x ∷ xs) [] h = absurd h
each_child_same (x ∷ xs) (y ∷ ys) h =
    (text_field name.Children (child_of x).id (child_of y).id (text_same x.value y.value h.0.1), each_child_same xs ys h.1)

-- ---- messages

-- what is read of fields that are the same but for lines is printed as such fields again
abbrev PrintsSame : {D : Type 0} → (ℕ → List Field → D) → (D → List Field) → Type 0
PrintsSame reads prints =
    (line other : ℕ) (xs ys : List Field) → AreSame xs ys → AreSame (prints (reads line xs)) (prints (reads other ys))

each_same : {D : Type 0} (n : FieldName) (reads : ℕ → List Field → D) (prints : D → List Field) → PrintsSame reads prints
    → (xs ys : List Field) → AreSame xs ys
    → AreSame (all_trees prints n (map (λ f. reads f.line (fields_in f.value)) xs)) (all_trees prints n (map (λ f. reads f.line (fields_in f.value)) ys))
each_same n reads prints each [] [] h = tt
each_same n reads prints each [] (y ∷ ys) h = absurd h
each_same n reads prints each (x ∷ xs) [] h = absurd h
each_same n reads prints each (x ∷ xs) (y ∷ ys) h = (
  message_field n (prints (reads x.line (fields_in x.value))) (prints (reads y.line (fields_in y.value)))
      (each x.line y.line (fields_in x.value) (fields_in y.value) (inner_same x.value y.value h.0.1)),
  each_same n reads prints each xs ys h.1,
)

messages_same : {D : Type 0} (n : FieldName) (reads : ℕ → List Field → D) (prints : D → List Field) → PrintsSame reads prints
    → (xs ys : List Field) → AreSame xs ys → AreSame (all_trees prints n (all_of reads n xs)) (all_trees prints n (all_of reads n ys))
messages_same n reads prints each xs ys h = each_same n reads prints each (fields_named n xs) (fields_named n ys) (named_same n xs ys h)

children_same : (xs ys : List Field) → AreSame xs ys → AreSame (map child_tree (children_of xs)) (map child_tree (children_of ys))
children_same xs ys h = each_child_same (fields_named name.Children xs) (fields_named name.Children ys) (named_same name.Children xs ys h)

text_of_same : (n : FieldName) (xs ys : List Field) → AreSame xs ys → SameField (quoted n (text_of n xs)) (quoted n (text_of n ys))
text_of_same n xs ys h = text_field n (text_of n xs) (text_of n ys) (texts_same n xs ys h)

type_of_same : (xs ys : List Field) → AreSame xs ys
    → SameField (bare name.Type (type_word (type_in (last_value name.Type xs)))) (bare name.Type (type_word (type_in (last_value name.Type ys))))
type_of_same xs ys h =
    word_field name.Type (type_word (type_in (last_value name.Type xs))) (type_word (type_in (last_value name.Type ys)))
    (ap type_word (types_same name.Type xs ys h))

prop_same : PrintsSame prop_of prop_tree
prop_same line other xs ys h =
    let id = text_of_same name.Id xs ys h in
    let value = text_of_same name.Value xs ys h in
    let type = type_of_same xs ys h in
    let unknown = unknown_same messages.Prop xs ys h in
    (id, (value, (type, unknown)))

comp_props_same : PrintsSame comp_props_of comp_props_tree
comp_props_same line other xs ys h =
    let id = text_of_same name.Id xs ys h in
    let properties = messages_same name.Properties prop_of prop_tree prop_same xs ys h in
    let unknown = unknown_same messages.CompProps xs ys h in
    (id, same_behind _ _ _ _ properties unknown)

inst_props_same : PrintsSame inst_props_of inst_props_tree
inst_props_same line other xs ys h =
    let id = text_of_same name.Id xs ys h in
    let properties = messages_same name.Properties comp_props_of comp_props_tree comp_props_same xs ys h in
    let unknown = unknown_same messages.InstProps xs ys h in
    (id, same_behind _ _ _ _ properties unknown)

ref_same : PrintsSame ref_of ref_tree
ref_same line other xs ys h =
    let id = text_of_same name.Id xs ys h in
    let component = text_of_same name.Component xs ys h in
    let position = position_same xs ys h in
    let rotation = rotation_same xs ys h in
    let properties = messages_same name.Properties prop_of prop_tree prop_same xs ys h in
    let unknown = unknown_same messages.Ref xs ys h in
    (id, (component, same_behind _ _ _ _ (same_behind _ _ _ _ (same_behind _ _ _ _ position rotation) properties) unknown))

embed_same : PrintsSame embed_of embed_tree
embed_same line other xs ys h =
    let id = text_of_same name.Id xs ys h in
    let kind = text_of_same name.Type xs ys h in
    let body = text_of_same name.Data xs ys h in
    let position = position_same xs ys h in
    let rotation = rotation_same xs ys h in
    let unknown = unknown_same messages.Embed xs ys h in
    (id, (kind, (body, same_behind _ _ _ _ (same_behind _ _ _ _ position rotation) unknown)))

pub go_same : (xs ys : List Field) → AreSame xs ys → AreSame (go_tree (go_of xs)) (go_tree (go_of ys))
go_same xs ys h =
    let components = messages_same name.Components ref_of ref_tree ref_same xs ys h in
    let embedded_components = messages_same name.EmbeddedComponents embed_of embed_tree embed_same xs ys h in
    let unknown = unknown_same messages.Go xs ys h in
    same_behind _ _ _ _ (same_behind _ _ _ _ components embedded_components) unknown

inst_same : PrintsSame inst_of inst_tree
inst_same line other xs ys h =
    let id = text_of_same name.Id xs ys h in
    let prototype = text_of_same name.Prototype xs ys h in
    let children = children_same xs ys h in
    let position = position_same xs ys h in
    let rotation = rotation_same xs ys h in
    let scale3 = scale3_same xs ys h in
    let component_properties = messages_same name.ComponentProperties comp_props_of comp_props_tree comp_props_same xs ys h in
    let unknown = unknown_same messages.Inst xs ys h in
    let placed = same_behind _ _ _ _ (same_behind _ _ _ _ children position) rotation in
    (id, (prototype, same_behind _ _ _ _ (same_behind _ _ _ _ (same_behind _ _ _ _ placed scale3) component_properties) unknown))

embed_inst_same : PrintsSame embed_inst_of embed_inst_tree
embed_inst_same line other xs ys h =
    let id = text_of_same name.Id xs ys h in
    let children = children_same xs ys h in
    let body = text_of_same name.Data xs ys h in
    let position = position_same xs ys h in
    let rotation = rotation_same xs ys h in
    let scale3 = scale3_same xs ys h in
    let unknown = unknown_same messages.EmbedInst xs ys h in
    let placed = same_behind _ _ _ _ (same_behind _ _ _ _ position rotation) scale3 in
    (id, same_behind _ _ _ _ children (body, same_behind _ _ _ _ placed unknown))

coll_inst_same : PrintsSame coll_inst_of coll_inst_tree
coll_inst_same line other xs ys h =
    let id = text_of_same name.Id xs ys h in
    let collection = text_of_same name.Collection xs ys h in
    let position = position_same xs ys h in
    let rotation = rotation_same xs ys h in
    let scale3 = scale3_same xs ys h in
    let instance_properties = messages_same name.InstanceProperties inst_props_of inst_props_tree inst_props_same xs ys h in
    let unknown = unknown_same messages.CollInst xs ys h in
    let placed = same_behind _ _ _ _ (same_behind _ _ _ _ position rotation) scale3 in
    (id, (collection, same_behind _ _ _ _ (same_behind _ _ _ _ placed instance_properties) unknown))

pub coll_same : (xs ys : List Field) → AreSame xs ys → AreSame (coll_tree (coll_of xs)) (coll_tree (coll_of ys))
coll_same xs ys h =
    let title = text_of_same name.Name xs ys h in
    let switch = switch_same xs ys h in
    let instances = messages_same name.Instances inst_of inst_tree inst_same xs ys h in
    let embedded_instances = messages_same name.EmbeddedInstances embed_inst_of embed_inst_tree embed_inst_same xs ys h in
    let collection_instances = messages_same name.CollectionInstances coll_inst_of coll_inst_tree coll_inst_same xs ys h in
    let unknown = unknown_same messages.Coll xs ys h in
    let listed = same_behind _ _ _ _ (same_behind _ _ _ _ switch instances) embedded_instances in
    (title, same_behind _ _ _ _ (same_behind _ _ _ _ listed collection_instances) unknown)
