-- What is printed of a tree that some text says is a tree that a text can say.
use Rattle.std.proofs.Common.{◌≡◌, ℕ, ◌+◌, ◌/◌, ◌%◌, ◌^◌, ◌<◌, ◌==◌, Bool, true, false, cond, List, [], ◌∷◌, ◌++◌, length, map, ℤ, pos, negsuc, FitsSigned, w64, Option, Some, None, refl, ap, sym, subst, ◌∙◌, ⊎_elim, arith}
use Rattle.std.specs.Fmt.{decimal}
use Rattle.std.specs.List.{filter}
use Rattle.std.specs.Option.{option_or}
use Rattle.std.specs.Ordering.{int_eq}
use Rattle.std.specs.Str.{is_utf8}
use Rattle.std.proofs.lemmas.Fmt.{decimal_is_IsNumeral}
use Rattle.std.proofs.lemmas.Str.{IsUtf8-nil, is_utf8-from_IsUtf8}
use Rattle.dg_base.specs.declared.datum.PType.{PType}
use Rattle.dg_base.specs.declared.datum.PType.TheVariants as ptype
use Rattle.dg_base.specs.declared.datum.V3.{V3}
use Rattle.dg_base.specs.declared.datum.V4.{V4}
use Rattle.dg_text.specs.Names.{is_name}
use Rattle.dg_decimal.specs.Value.{billion}
use Rattle.dg_decimal.specs.Canonical.{canonical, magnitude_text, fraction_text, fraction_digits, padded_digits, without_zeros}
use Rattle.dg_decimal.proofs.Digits.{to_list_all}
use Rattle.dg_decimal.proofs.Trimmed.{AllDigits-without_zeros, AllDigits-padded}
use Rattle.dg_ptext.specs.declared.tree.Field.{Field}
use Rattle.dg_ptext.specs.declared.tree.Value.{Value}
use Rattle.dg_ptext.specs.declared.tree.Value.TheVariants as value
use Rattle.dg_ptext.specs.Token.{is_word_byte}
use Rattle.dg_ptext.proofs.WordBytes.{IsWord, AllOfWord, word_digits, word_name}
use Rattle.dg_ptext.proofs.FieldsSpelled.{IsSpelledValue, IsSpelledField, AreSpelled, form_of, word_spelled, text_spelled, message_spelled}
use Rattle.dg_desc.specs.declared.known.Message.{Message}
use Rattle.dg_desc.specs.declared.known.Message.TheVariants as messages
use Rattle.dg_desc.specs.declared.known.FieldName.{FieldName}
use Rattle.dg_desc.specs.declared.known.FieldName.TheVariants as name
use Rattle.dg_desc.specs.Known.{label_of}
use Rattle.dg_desc.specs.Words.{type_word}
use Rattle.dg_desc.specs.Faults.{is_named}
use Rattle.dg_desc.specs.Lookups.{last_value, fields_named, unknown, is_unknown, fields_in, text_in, text_or_none, text_of, type_in, switch_in, one, position_of, rotation_of, scale3_of}
use Rattle.dg_desc.specs.Descs.{child_of, prop_of, comp_props_of, inst_props_of, ref_of, embed_of, go_of, inst_of, embed_inst_of, coll_inst_of, coll_of, all_of, children_of}
use Rattle.dg_desc.specs.Trees.{bare, quoted, message, differing, vector_fields, vector_tree, quaternion_fields, position_tree, rotation_tree, scale3_tree, switch_tree, all_trees, child_tree, prop_tree, comp_props_tree, inst_props_tree, ref_tree, embed_tree, go_tree, inst_tree, embed_inst_tree, coll_inst_tree, coll_tree}
use Rattle.dg_desc.proofs.Groups.{last_of, last-named}
use Rattle.dg_desc.proofs.Numbers.{inside}
use Rattle.dg_desc.proofs.Vectors.{GivenVectorFits, GivenRotationFits, position_fits, rotation_fits, scale3_fits}

-- ---- words

behind_words : (xs ys : List ℕ) → AllOfWord xs → AllOfWord ys → AllOfWord (xs ++ ys)
behind_words [] ys h k = k
behind_words (x ∷ xs) ys h k = (h.0, behind_words xs ys h.1 k)

some_word : (xs ys : List ℕ) → 0 < length xs → AllOfWord xs → AllOfWord ys → IsWord (xs ++ ys)
some_word [] ys some h k = absurd (omega (arith, some))
some_word (x ∷ xs) ys some h k = (h.0, behind_words xs ys h.1 k)

minus_word : is_word_byte 45 ≡ true
unfolding is_word_byte
minus_word = refl

point_word : is_word_byte 46 ≡ true
unfolding is_word_byte
point_word = refl

fraction_word : (rest : ℕ) → rest < billion → AllOfWord (fraction_text rest)
unfolding fraction_digits
fraction_word rest below = by_test (rest == 0)
  where
    by_test : (b : Bool) → AllOfWord (cond b [] (46 ∷ fraction_digits rest))
    by_test true = tt
    by_test false =
        let ds = without_zeros (padded_digits 9 rest) in
        (point_word, word_digits ds (to_list_all ds (AllDigits-without_zeros (padded_digits 9 rest) (AllDigits-padded 9 rest below))))

magnitude_word : (n : ℕ) → n < 2 ^ 64 → IsWord (magnitude_text n)
magnitude_word n small =
    let whole = decimal_is_IsNumeral (n / billion) (omega (arith, small)) in
    some_word (decimal (n / billion)) (fraction_text (n % billion)) whole.0.0
    (word_digits (decimal (n / billion)) (to_list_all (decimal (n / billion)) whole.0.1)) (fraction_word (n % billion) (omega arith))

all_of_word : (w : List ℕ) → IsWord w → AllOfWord w
all_of_word [] h = absurd h
all_of_word (b ∷ bs) h = h

number_word : (z : ℤ) → FitsSigned w64 z → IsWord (canonical z)
number_word (pos n) h = magnitude_word n (omega (arith, h.sfits))
number_word (negsuc n) h = (minus_word, all_of_word (magnitude_text (n + 1)) (magnitude_word (n + 1) (omega (arith, h.sfits))))

-- the labels are names, and the words of types and switches are like names
label_name : (n : FieldName) → is_name (label_of n) ≡ true
label_name name.X = refl
label_name _ = refl

type_name : (kind : PType) → is_name (type_word kind) ≡ true
type_name ptype.Number = refl
type_name _ = refl

one_word : IsWord (49 ∷ [])
unfolding is_word_byte
one_word = (refl, tt)

-- ---- what is read of values

no_text : is_utf8 [] ≡ true
no_text = is_utf8-from_IsUtf8 [] IsUtf8-nil

value_text : (depth : ℕ) (v : Value) → IsSpelledValue depth v → is_utf8 (text_in v) ≡ true
value_text depth v h =
    ⊎_elim (λ w. ap (λ u. is_utf8 (text_in u)) w.1 ∙ no_text)
    (⊎_elim (λ t. ap (λ u. is_utf8 (text_in u)) t.1 ∙ t.2) (λ m. ap (λ u. is_utf8 (text_in u)) m.1 ∙ no_text)) (form_of depth v h)

value_fields : (depth : ℕ) (v : Value) → IsSpelledValue depth v → AreSpelled (depth + 1) (fields_in v)
value_fields depth v h =
    let P : List Field → Type 0 = λ fs. AreSpelled (depth + 1) fs in
    ⊎_elim (λ w. subst P (sym (ap fields_in w.1)) tt)
    (⊎_elim (λ t. subst P (sym (ap fields_in t.1)) tt) (λ m. subst P (sym (ap fields_in m.1 ∙ inside m.0)) m.2)) (form_of depth v h)

-- ---- fields

kept_spelled : (depth : ℕ) (test : Field → Bool) (fields : List Field) → AreSpelled depth fields → AreSpelled depth (filter test fields)
kept_spelled depth test [] h = tt
kept_spelled depth test (f ∷ fs) h = by_test (test f) (kept_spelled depth test fs h.1)
  where
    by_test : (b : Bool) → AreSpelled depth (filter test fs) → AreSpelled depth (cond b (f ∷ filter test fs) (filter test fs))
    by_test true rest = (h.0, rest)
    by_test false rest = rest

spelled_behind : (depth : ℕ) (xs ys : List Field) → AreSpelled depth xs → AreSpelled depth ys → AreSpelled depth (xs ++ ys)
spelled_behind depth [] ys h k = k
spelled_behind depth (x ∷ xs) ys h k = (h.0, spelled_behind depth xs ys h.1 k)

field_spelled : (depth : ℕ) (n : FieldName) (v : Value) → IsSpelledValue depth v → IsSpelledField depth (record { name = label_of n; line = 0; value = v })
field_spelled depth n v h = record { named = label_name n; word = word_name (label_of n) (label_name n); value = h }

or_text : (o : Option Value) (v : Value) → is_utf8 (text_or_none o) ≡ true → is_utf8 (text_in v) ≡ true
    → is_utf8 (text_or_none (option_or o (Some v))) ≡ true
or_text None v h k = k
or_text (Some w) v h k = h

last_text : (depth : ℕ) (fields : List Field) → AreSpelled depth fields → is_utf8 (text_or_none (last_of fields)) ≡ true
last_text depth [] h = no_text
last_text depth (f ∷ fs) h = or_text (last_of fs) f.value (last_text depth fs h.1) (value_text depth f.value h.0.value)

number_fields : (depth : ℕ) (n : FieldName) (other z : ℤ) → FitsSigned w64 z → AreSpelled depth (differing n other z)
number_fields depth n other z h = by_test (int_eq z other)
  where
    by_test : (b : Bool) → AreSpelled depth (cond b [] (bare n (canonical z) ∷ []))
    by_test true = tt
    by_test false = (field_spelled depth n (value.Bare (canonical z)) (word_spelled depth (canonical z) (number_word z h)), tt)

message_if_any : (depth : ℕ) (n : FieldName) (fields : List Field) → depth < 64 → AreSpelled (depth + 1) fields → (b : Bool)
    → AreSpelled depth (cond b [] (message n fields ∷ []))
message_if_any depth n fields shallow h true = tt
message_if_any depth n fields shallow h false =
    (field_spelled depth n (value.Message fields) (message_spelled depth fields shallow h), tt)

given_vector : (depth : ℕ) (n : FieldName) (other : ℤ) (p : Option V3) → depth < 64 → GivenVectorFits p → AreSpelled depth (vector_tree n other p)
given_vector depth n other None shallow h = tt
given_vector depth n other (Some v) shallow h =
    let x = differing name.X other v.x in
    let y = differing name.Y other v.y in
    let z = differing name.Z other v.z in
    message_if_any depth n (vector_fields other v) shallow
    (spelled_behind (depth + 1) (x ++ y) z
    (spelled_behind (depth + 1) x y (number_fields (depth + 1) name.X other v.x h.x) (number_fields (depth + 1) name.Y other v.y h.y))
    (number_fields (depth + 1) name.Z other v.z h.z))
    (length (vector_fields other v) == 0)

given_rotation : (depth : ℕ) (p : Option V4) → depth < 64 → GivenRotationFits p → AreSpelled depth (rotation_tree p)
given_rotation depth None shallow h = tt
given_rotation depth (Some q) shallow h =
    let x = differing name.X (pos 0) q.x in
    let y = differing name.Y (pos 0) q.y in
    let z = differing name.Z (pos 0) q.z in
    let w = differing name.W one q.w in
    message_if_any depth name.Rotation (quaternion_fields q) shallow
    (spelled_behind (depth + 1) (x ++ y ++ z) w
    (spelled_behind (depth + 1) (x ++ y) z
    (spelled_behind (depth + 1) x y (number_fields (depth + 1) name.X (pos 0) q.x h.x) (number_fields (depth + 1) name.Y (pos 0) q.y h.y))
    (number_fields (depth + 1) name.Z (pos 0) q.z h.z))
    (number_fields (depth + 1) name.W one q.w h.w))
    (length (quaternion_fields q) == 0)

type_field : (depth : ℕ) (kind : PType) → IsSpelledField depth (bare name.Type (type_word kind))
type_field depth kind =
    field_spelled depth name.Type (value.Bare (type_word kind))
    (word_spelled depth (type_word kind) (word_name (type_word kind) (type_name kind)))

switch_field : (depth : ℕ) (on : Bool) → AreSpelled depth (switch_tree name.ScaleAlongZ on)
switch_field depth true = (field_spelled depth name.ScaleAlongZ (value.Bare (49 ∷ [])) (word_spelled depth (49 ∷ []) one_word), tt)
switch_field depth false = tt

each_child : (depth : ℕ) (fields : List Field) → AreSpelled depth fields → AreSpelled depth (map child_tree (map child_of fields))
each_child depth [] h = tt
each_child depth (f ∷ fs) h = (
  field_spelled depth name.Children (value.Quoted (text_in f.value))
      (text_spelled depth (text_in f.value) (value_text depth f.value h.0.value)),
  each_child depth fs h.1,
)

-- ---- messages

-- what is read of fields that a text can say, with room for so many messages in one another, is printed as such fields
abbrev PrintsSpelled : {D : Type 0} → ℕ → (ℕ → List Field → D) → (D → List Field) → Type 0
PrintsSpelled room reads prints =
    (depth : ℕ) → depth + room < 65 → (line : ℕ) (fields : List Field) → AreSpelled depth fields → AreSpelled depth (prints (reads line fields))

each_message : {D : Type 0} (depth room : ℕ) (n : FieldName) (reads : ℕ → List Field → D) (prints : D → List Field)
    → depth < 64 → depth + 1 + room < 65 → PrintsSpelled room reads prints → (fields : List Field) → AreSpelled depth fields
    → AreSpelled depth (all_trees prints n (map (λ f. reads f.line (fields_in f.value)) fields))
each_message depth room n reads prints shallow roomy each [] h = tt
each_message depth room n reads prints shallow roomy each (f ∷ fs) h = (
  field_spelled depth n (value.Message (prints (reads f.line (fields_in f.value))))
      (message_spelled depth (prints (reads f.line (fields_in f.value))) shallow
      (each (depth + 1) roomy f.line (fields_in f.value) (value_fields depth f.value h.0.value))),
  each_message depth room n reads prints shallow roomy each fs h.1,
)

module _ (depth : ℕ) (fields : List Field) (h : AreSpelled depth fields) where
  text_field : (n : FieldName) → IsSpelledField depth (quoted n (text_of n fields))
  text_field n =
      field_spelled depth n (value.Quoted (text_of n fields)) (text_spelled depth (text_of n fields)
      (ap (λ o. is_utf8 (text_or_none o)) (last-named n fields)
      ∙ last_text depth (fields_named n fields) (kept_spelled depth (is_named n) fields h)))

  unknown_fields : (m : Message) → AreSpelled depth (unknown m fields)
  unknown_fields m = kept_spelled depth (is_unknown m) fields h

  named_fields : (n : FieldName) → AreSpelled depth (fields_named n fields)
  named_fields n = kept_spelled depth (is_named n) fields h

  children_field : AreSpelled depth (map child_tree (children_of fields))
  children_field = each_child depth (fields_named name.Children fields) (named_fields name.Children)

  position_field : depth < 64 → AreSpelled depth (position_tree (position_of fields))
  position_field shallow = given_vector depth name.Position (pos 0) (position_of fields) shallow (position_fits fields)

  rotation_field : depth < 64 → AreSpelled depth (rotation_tree (rotation_of fields))
  rotation_field shallow = given_rotation depth (rotation_of fields) shallow (rotation_fits fields)

  scale3_field : depth < 64 → AreSpelled depth (scale3_tree (scale3_of fields))
  scale3_field shallow = given_vector depth name.Scale3 one (scale3_of fields) shallow (scale3_fits fields)

  messages_field : {D : Type 0} (room : ℕ) (n : FieldName) (reads : ℕ → List Field → D) (prints : D → List Field)
      → depth + 1 + room < 65 → PrintsSpelled room reads prints → AreSpelled depth (all_trees prints n (all_of reads n fields))
  messages_field room n reads prints roomy each =
      each_message depth room n reads prints (omega (arith, roomy)) roomy each (fields_named n fields) (named_fields n)

prop_spelled : PrintsSpelled 0 prop_of prop_tree
prop_spelled depth roomy line fields h =
    let id = text_field depth fields h name.Id in
    let value = text_field depth fields h name.Value in
    let type = type_field depth (type_in (last_value name.Type fields)) in
    let unknown = unknown_fields depth fields h messages.Prop in
    (id, (value, (type, unknown)))

comp_props_spelled : PrintsSpelled 1 comp_props_of comp_props_tree
comp_props_spelled depth roomy line fields h =
    let id = text_field depth fields h name.Id in
    let properties = messages_field depth fields h 0 name.Properties prop_of prop_tree (omega arith) prop_spelled in
    let unknown = unknown_fields depth fields h messages.CompProps in
    (id, spelled_behind depth _ _ properties unknown)

inst_props_spelled : PrintsSpelled 2 inst_props_of inst_props_tree
inst_props_spelled depth roomy line fields h =
    let id = text_field depth fields h name.Id in
    let properties = messages_field depth fields h 1 name.Properties comp_props_of comp_props_tree (omega arith) comp_props_spelled in
    let unknown = unknown_fields depth fields h messages.InstProps in
    (id, spelled_behind depth _ _ properties unknown)

ref_spelled : PrintsSpelled 1 ref_of ref_tree
ref_spelled depth roomy line fields h =
    let id = text_field depth fields h name.Id in
    let component = text_field depth fields h name.Component in
    let position = position_field depth fields h (omega arith) in
    let rotation = rotation_field depth fields h (omega arith) in
    let properties = messages_field depth fields h 0 name.Properties prop_of prop_tree (omega arith) prop_spelled in
    let unknown = unknown_fields depth fields h messages.Ref in
    (id, (component, spelled_behind depth _ _ (spelled_behind depth _ _ (spelled_behind depth _ _ position rotation) properties) unknown))

embed_spelled : PrintsSpelled 1 embed_of embed_tree
embed_spelled depth roomy line fields h =
    let id = text_field depth fields h name.Id in
    let kind = text_field depth fields h name.Type in
    let body = text_field depth fields h name.Data in
    let position = position_field depth fields h (omega arith) in
    let rotation = rotation_field depth fields h (omega arith) in
    let unknown = unknown_fields depth fields h messages.Embed in
    (id, (kind, (body, spelled_behind depth _ _ (spelled_behind depth _ _ position rotation) unknown)))

pub go_spelled : (tree : List Field) → AreSpelled 0 tree → AreSpelled 0 (go_tree (go_of tree))
go_spelled tree h =
    let components = messages_field 0 tree h 1 name.Components ref_of ref_tree (omega arith) ref_spelled in
    let embedded_components = messages_field 0 tree h 1 name.EmbeddedComponents embed_of embed_tree (omega arith) embed_spelled in
    let unknown = unknown_fields 0 tree h messages.Go in
    spelled_behind 0 _ _ (spelled_behind 0 _ _ components embedded_components) unknown

inst_spelled : PrintsSpelled 2 inst_of inst_tree
inst_spelled depth roomy line fields h =
    let id = text_field depth fields h name.Id in
    let prototype = text_field depth fields h name.Prototype in
    let children = children_field depth fields h in
    let position = position_field depth fields h (omega arith) in
    let rotation = rotation_field depth fields h (omega arith) in
    let scale3 = scale3_field depth fields h (omega arith) in
    let component_properties = messages_field depth fields h 1 name.ComponentProperties comp_props_of comp_props_tree (omega arith) comp_props_spelled in
    let unknown = unknown_fields depth fields h messages.Inst in
    let placed = spelled_behind depth _ _ (spelled_behind depth _ _ children position) rotation in
    (id, (prototype, spelled_behind depth _ _ (spelled_behind depth _ _ (spelled_behind depth _ _ placed scale3) component_properties) unknown))

embed_inst_spelled : PrintsSpelled 1 embed_inst_of embed_inst_tree
embed_inst_spelled depth roomy line fields h =
    let id = text_field depth fields h name.Id in
    let children = children_field depth fields h in
    let body = text_field depth fields h name.Data in
    let position = position_field depth fields h (omega arith) in
    let rotation = rotation_field depth fields h (omega arith) in
    let scale3 = scale3_field depth fields h (omega arith) in
    let unknown = unknown_fields depth fields h messages.EmbedInst in
    let placed = spelled_behind depth _ _ (spelled_behind depth _ _ position rotation) scale3 in
    (id, spelled_behind depth _ _ children (body, spelled_behind depth _ _ placed unknown))

coll_inst_spelled : PrintsSpelled 3 coll_inst_of coll_inst_tree
coll_inst_spelled depth roomy line fields h =
    let id = text_field depth fields h name.Id in
    let collection = text_field depth fields h name.Collection in
    let position = position_field depth fields h (omega arith) in
    let rotation = rotation_field depth fields h (omega arith) in
    let scale3 = scale3_field depth fields h (omega arith) in
    let instance_properties = messages_field depth fields h 2 name.InstanceProperties inst_props_of inst_props_tree (omega arith) inst_props_spelled in
    let unknown = unknown_fields depth fields h messages.CollInst in
    let placed = spelled_behind depth _ _ (spelled_behind depth _ _ position rotation) scale3 in
    (id, (collection, spelled_behind depth _ _ (spelled_behind depth _ _ placed instance_properties) unknown))

pub coll_spelled : (tree : List Field) → AreSpelled 0 tree → AreSpelled 0 (coll_tree (coll_of tree))
coll_spelled tree h =
    let title = text_field 0 tree h name.Name in
    let switch = switch_field 0 (switch_in (last_value name.ScaleAlongZ tree)) in
    let instances = messages_field 0 tree h 2 name.Instances inst_of inst_tree (omega arith) inst_spelled in
    let embedded_instances = messages_field 0 tree h 1 name.EmbeddedInstances embed_inst_of embed_inst_tree (omega arith) embed_inst_spelled in
    let collection_instances = messages_field 0 tree h 3 name.CollectionInstances coll_inst_of coll_inst_tree (omega arith) coll_inst_spelled in
    let unknown = unknown_fields 0 tree h messages.Coll in
    let listed = spelled_behind 0 _ _ (spelled_behind 0 _ _ switch instances) embedded_instances in
    (title, spelled_behind 0 _ _ (spelled_behind 0 _ _ listed collection_instances) unknown)
