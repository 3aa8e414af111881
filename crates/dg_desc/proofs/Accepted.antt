-- What is read of a tree without fault is printed as a tree that reads as its canonical form.
use Rattle.std.proofs.Common.{◌≡◌, ℕ, Bool, true, false, cond, List, [], ◌∷◌, map, Option, Some, None, Ok, refl, ap, ap₂, sym, subst, ◌∙◌}
use Rattle.std.specs.List.{AllByRecursion}
use Rattle.std.specs.Option.{option_or}
use Rattle.std.proofs.lemmas.Bool.{not-false}
use Rattle.std.proofs.lemmas.Slice.Eq.{bytes_eq-Decides}
use Rattle.dg_ptext.specs.declared.tree.Field.{Field}
use Rattle.dg_ptext.specs.declared.tree.Value.{Value, Bare, Quoted, Message', items-the_row-Field}
use Rattle.dg_desc.specs.declared.known.Message.{Message}
use Rattle.dg_desc.specs.declared.known.Message.TheVariants as messages
use Rattle.dg_desc.specs.declared.known.FieldName.{FieldName}
use Rattle.dg_desc.specs.declared.known.FieldName.TheVariants as name
use Rattle.dg_desc.specs.declared.descs.GoDesc.{GoDesc}
use Rattle.dg_desc.specs.declared.descs.CollDesc.{CollDesc}
use Rattle.dg_desc.specs.declared.refusal.DescCode.{DescCode}
use Rattle.dg_desc.specs.Known.{label_of, rows_of, place_in}
use Rattle.dg_desc.specs.Words.{is_kind}
use Rattle.dg_desc.specs.Faults.{is_named, is_there, missing, unless, value_fault, fields_fault, fault_of}
use Rattle.dg_desc.specs.Lookups.{fields_named, fields_in, text_in, text_or_none, text_of}
use Rattle.dg_desc.specs.Descs.{prop_of, comp_props_of, inst_props_of, ref_of, embed_of, go_of, inst_of, embed_inst_of, coll_inst_of, coll_of, unless_fault, go_reading, coll_reading}
use Rattle.dg_desc.specs.Trees.{go_tree, coll_tree}
use Rattle.dg_desc.specs.Canonical.{canonical_go, canonical_coll}
use Rattle.dg_desc.proofs.Messages.{of_fields}
use Rattle.dg_desc.proofs.Groups.{are_unknown, no_faults, last_of, last-named, some_fields, there-named}
use Rattle.dg_desc.proofs.SameFaults.{not_refused}
use Rattle.dg_desc.proofs.Vectors.{position_fits, rotation_fits, scale3_fits}
use Rattle.dg_desc.proofs.MessagesAgain.{PropAgain, CompPropsAgain, InstPropsAgain, RefAgain, EmbedAgain, GoAgain, InstAgain, EmbedInstAgain, CollInstAgain, CollAgain, prop_again, comp_props_again, inst_props_again, ref_again, embed_again, go_again, inst_again, embed_inst_again, coll_inst_again, coll_again}

-- ---- messages of a name

-- a fact of what is read of each field
each : {D : Type 0} (one : ℕ → List Field → D) (P : D → Type 0) → ((line : ℕ) (fields : List Field) → P (one line fields))
    → (fields : List Field) → AllByRecursion P (map (λ f. one f.line (fields_in f.value)) fields)
each one P h [] = tt
each one P h (f ∷ fs) = (h f.line (fields_in f.value), each one P h fs)

-- the fields of a name have no fault
named_fit : (m : Message) (n : FieldName) (fields : List Field) → fields_fault m fields ≡ None
    → AllByRecursion (λ f. value_fault (place_in m (label_of n)) f.line f.value ≡ None) (fields_named n fields)
named_fit m n [] h = tt
named_fit m n (f ∷ fs) h =
    let parts = no_faults (value_fault (place_in m f.name) f.line f.value) (fields_fault m fs) h in
    by_test (is_named n f) refl parts.0 (named_fit m n fs parts.1)
  where
    by_test : (b : Bool) → is_named n f ≡ b → value_fault (place_in m f.name) f.line f.value ≡ None
        → AllByRecursion (λ f. value_fault (place_in m (label_of n)) f.line f.value ≡ None) (fields_named n fs)
        → AllByRecursion (λ f. value_fault (place_in m (label_of n)) f.line f.value ≡ None) (cond b (f ∷ fields_named n fs) (fields_named n fs))
    by_test true e fit rest =
        (subst (λ (label : List ℕ). value_fault (place_in m label) f.line f.value ≡ None) ((bytes_eq-Decides f.name (label_of n)).0 e) fit, rest)
    by_test false e fit rest = rest

-- ---- the type of an embedded component

kind_in : (line : ℕ) (v : Value) → value_fault (place_in messages.Embed (label_of name.Type)) line v ≡ None → is_kind (text_in v) ≡ true
kind_in line (Bare word) h = let e : ⊥ = cc in absurd e
kind_in line (Quoted text) h = by_test (is_kind text) h
  where
    by_test : (b : Bool) → unless b line (place_in messages.Embed (label_of name.Type)) ≡ None → b ≡ true
    by_test true h = refl
    by_test false h = let e : ⊥ = cc in absurd e
kind_in line (Message' shape fields) h = let e : ⊥ = cc in absurd e

later_kind : (o : Option Value) (v : Value) → is_kind (text_or_none o) ≡ true → is_kind (text_or_none (option_or o (Some v))) ≡ true
later_kind None v h = let e : ⊥ = cc in absurd e
later_kind (Some w) v h = h

last_kind : (fields : List Field)
    → AllByRecursion (λ f. value_fault (place_in messages.Embed (label_of name.Type)) f.line f.value ≡ None) fields
    → some_fields fields ≡ true → is_kind (text_or_none (last_of fields)) ≡ true
last_kind [] h some = some
last_kind (f ∷ []) h some = kind_in f.line f.value h.0
last_kind (f ∷ g ∷ gs) h some = later_kind (last_of (g ∷ gs)) f.value (last_kind (g ∷ gs) h.1 refl)

kind_read : (line : ℕ) (fields : List Field) → fault_of messages.Embed line fields ≡ None → is_kind (text_of name.Type fields) ≡ true
kind_read line fields h =
    let parts = no_faults (fields_fault messages.Embed fields) (missing (rows_of messages.Embed) line fields) h in
    let there = not_refused _ _ _ (not_refused _ _ _ parts.1).1 in
    let some : some_fields (fields_named name.Type fields) ≡ true =
    sym (there-named name.Type fields) ∙ not-false (is_there name.Type fields) there.0 in
    ap (λ o. is_kind (text_or_none o)) (last-named name.Type fields)
    ∙ last_kind (fields_named name.Type fields) (named_fit messages.Embed name.Type fields parts.0) some

-- ---- messages

prop_read : (line : ℕ) (fields : List Field) → PropAgain (prop_of line fields)
prop_read line fields = prop_again (prop_of line fields) (are_unknown messages.Prop fields)

comp_props_read : (line : ℕ) (fields : List Field) → CompPropsAgain (comp_props_of line fields)
comp_props_read line fields =
    comp_props_again (comp_props_of line fields) (are_unknown messages.CompProps fields)
    (each prop_of PropAgain prop_read (fields_named name.Properties fields))

inst_props_read : (line : ℕ) (fields : List Field) → InstPropsAgain (inst_props_of line fields)
inst_props_read line fields =
    inst_props_again (inst_props_of line fields) (are_unknown messages.InstProps fields)
    (each comp_props_of CompPropsAgain comp_props_read (fields_named name.Properties fields))

ref_read : (line : ℕ) (fields : List Field) → RefAgain (ref_of line fields)
ref_read line fields =
    ref_again (ref_of line fields) (are_unknown messages.Ref fields) (position_fits fields) (rotation_fits fields)
    (each prop_of PropAgain prop_read (fields_named name.Properties fields))

embed_read : (line : ℕ) (fields : List Field) → fault_of messages.Embed line fields ≡ None → EmbedAgain (embed_of line fields)
embed_read line fields h =
    embed_again (embed_of line fields) (are_unknown messages.Embed fields) (kind_read line fields h) (position_fits fields) (rotation_fits fields)

inst_read : (line : ℕ) (fields : List Field) → InstAgain (inst_of line fields)
inst_read line fields =
    inst_again (inst_of line fields) (are_unknown messages.Inst fields) (position_fits fields) (rotation_fits fields) (scale3_fits fields)
    (each comp_props_of CompPropsAgain comp_props_read (fields_named name.ComponentProperties fields))

embed_inst_read : (line : ℕ) (fields : List Field) → EmbedInstAgain (embed_inst_of line fields)
embed_inst_read line fields =
    embed_inst_again (embed_inst_of line fields) (are_unknown messages.EmbedInst fields)
    (position_fits fields) (rotation_fits fields) (scale3_fits fields)

coll_inst_read : (line : ℕ) (fields : List Field) → CollInstAgain (coll_inst_of line fields)
coll_inst_read line fields =
    coll_inst_again (coll_inst_of line fields) (are_unknown messages.CollInst fields)
    (position_fits fields) (rotation_fits fields) (scale3_fits fields)
    (each inst_props_of InstPropsAgain inst_props_read (fields_named name.InstanceProperties fields))

-- a message where one has to stand has no fault of its own
embed_fits : (line : ℕ) (v : Value) → value_fault (place_in messages.Go (label_of name.EmbeddedComponents)) line v ≡ None
    → fault_of messages.Embed line (fields_in v) ≡ None
embed_fits line (Bare word) h = let e : ⊥ = cc in absurd e
embed_fits line (Quoted text) h = let e : ⊥ = cc in absurd e
embed_fits line (Message' shape fields) h =
    ap (λ o. option_or o (missing (rows_of messages.Embed) line (items-the_row-Field _ fields))) (sym (of_fields messages.Embed _ fields)) ∙ h

embeds_read : (fields : List Field)
    → AllByRecursion (λ f. value_fault (place_in messages.Go (label_of name.EmbeddedComponents)) f.line f.value ≡ None) fields
    → AllByRecursion EmbedAgain (map (λ f. embed_of f.line (fields_in f.value)) fields)
embeds_read [] h = tt
embeds_read (f ∷ fs) h = (embed_read f.line (fields_in f.value) (embed_fits f.line f.value h.0), embeds_read fs h.1)

go_read : (tree : List Field) → fault_of messages.Go 1 tree ≡ None → GoAgain (go_of tree)
go_read tree h =
    let parts = no_faults (fields_fault messages.Go tree) (missing (rows_of messages.Go) 1 tree) h in
    go_again (go_of tree) (are_unknown messages.Go tree)
    (each ref_of RefAgain ref_read (fields_named name.Components tree))
    (embeds_read (fields_named name.EmbeddedComponents tree) (named_fit messages.Go name.EmbeddedComponents tree parts.0))

coll_read : (tree : List Field) → CollAgain (coll_of tree)
coll_read tree =
    coll_again (coll_of tree) (are_unknown messages.Coll tree)
    (each inst_of InstAgain inst_read (fields_named name.Instances tree))
    (each embed_inst_of EmbedInstAgain embed_inst_read (fields_named name.EmbeddedInstances tree))
    (each coll_inst_of CollInstAgain coll_inst_read (fields_named name.CollectionInstances tree))

-- ---- files

pub accepted : {D : Type 0} (o : Option DescCode) (d desc : D) → unless_fault o d ≡ Ok desc → (o ≡ None) × (d ≡ desc)
accepted None d desc h = (refl, cc)
accepted (Some code) d desc h = let e : ⊥ = cc in absurd e

pub go_reads_again : (tree : List Field) (desc : GoDesc) → go_reading tree ≡ Ok desc → go_reading (go_tree desc) ≡ Ok (canonical_go desc)
go_reads_again tree desc h =
    let parts = accepted (fault_of messages.Go 1 tree) (go_of tree) desc h in
    let again = go_read tree parts.0 in
    subst (λ (d : GoDesc). go_reading (go_tree d) ≡ Ok (canonical_go d)) parts.1 (ap₂ unless_fault (again.no_fault 1) again.again)

pub coll_reads_again : (tree : List Field) (desc : CollDesc) → coll_reading tree ≡ Ok desc → coll_reading (coll_tree desc) ≡ Ok (canonical_coll desc)
coll_reads_again tree desc h =
    let parts = accepted (fault_of messages.Coll 1 tree) (coll_of tree) desc h in
    let again = coll_read tree in
    subst (λ (d : CollDesc). coll_reading (coll_tree d) ≡ Ok (canonical_coll d)) parts.1 (ap₂ unless_fault (again.no_fault 1) again.again)
