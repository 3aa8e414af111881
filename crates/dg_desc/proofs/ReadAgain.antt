-- Messages that are printed and read again, and what is found in the groups that they are printed as.
use Rattle.std.proofs.Common.{◌≡◌, ℕ, Bool, true, false, List, [], ◌∷◌, map, pos, Option, None, option_map, refl, ap, ap₂, ◌∙◌}
use Rattle.std.specs.List.{AllByRecursion, list_all}
use Rattle.std.specs.Option.{option_or}
use Rattle.dg_base.specs.declared.datum.PType.{PType}
use Rattle.dg_base.specs.declared.datum.V3.{V3}
use Rattle.dg_base.specs.declared.datum.V4.{V4}
use Rattle.dg_ptext.specs.declared.tree.Field.{Field}
use Rattle.dg_desc.specs.declared.known.Message.{Message}
use Rattle.dg_desc.specs.declared.known.FieldName.{FieldName}
use Rattle.dg_desc.specs.declared.known.FieldName.TheVariants as name
use Rattle.dg_desc.specs.declared.known.Form.TheVariants as form
use Rattle.dg_desc.specs.declared.descs.ChildDesc.{ChildDesc}
use Rattle.dg_desc.specs.Known.{label_of, place_in, rows_of, is_closed}
use Rattle.dg_desc.specs.Words.{type_word}
use Rattle.dg_desc.specs.Faults.{fields_fault, fault_of}
use Rattle.dg_desc.specs.Lookups.{last_value, unknown, fields_in, text_or_none, text_of, type_in, switch_in, one, vector_of, quaternion_of, position_of, rotation_of, scale_of, scale3_of}
use Rattle.dg_desc.specs.Descs.{all_of, child_of, children_of}
use Rattle.dg_desc.specs.Trees.{bare, quoted, all_trees, child_tree, position_tree, rotation_tree, scale3_tree, switch_tree}
use Rattle.dg_desc.specs.Canonical.{differing_vector, differing_rotation, canonical_child}
use Rattle.dg_desc.proofs.Messages.{fault-Inner}
use Rattle.dg_desc.proofs.Groups.{Group, whole, grouped, is_known, is_met, IsGroup, IsWhole, AreUnknown, last_of, named-whole, last-whole, unknown-whole, fault-whole, whole_of}
use Rattle.dg_desc.proofs.Numbers.{inside}
use Rattle.dg_desc.proofs.Vectors.{GivenVectorFits, GivenRotationFits, given_again, rotation_again, scale_again}
use Rattle.dg_desc.proofs.WordValues.{type_again, switch_again, children_again}

-- the printed fields of a description have no fault, and read as its canonical form
pub record ReadsAgain {D : Type 0} (m : Message) (reads : ℕ → List Field → D) (prints : D → List Field) (canonical : D → D) (d : D) : Type 0 where
  pub no_fault : (line : ℕ) → fault_of m line (prints d) ≡ None
  pub again : reads 0 (prints d) ≡ canonical d

-- ---- messages of a name

pub messages_group : {D : Type 0} (m inner : Message) (n : FieldName)
    (reads : ℕ → List Field → D) (prints : D → List Field) (canonical : D → D)
    → is_known m n ≡ true → (place_in m (label_of n)).form ≡ form.Inner inner
    → (all : List D) → AllByRecursion (ReadsAgain inner reads prints canonical) all → IsGroup m (n, all_trees prints n all)
messages_group m inner n reads prints canonical known is [] h = record { known = known; named = tt; fits = refl }
messages_group m inner n reads prints canonical known is (d ∷ ds) h =
    let rest = messages_group m inner n reads prints canonical known is ds h.1 in
    record {
      known = known;
      named = (refl, rest.named);
      fits =
          ap (λ o. option_or o (fields_fault m (all_trees prints n ds)))
          (fault-Inner (place_in m (label_of n)) inner 0 (prints d) is ∙ h.0.no_fault 0)
          ∙ rest.fits;
    }

messages_again : {D : Type 0} (inner : Message) (n : FieldName)
    (reads : ℕ → List Field → D) (prints : D → List Field) (canonical : D → D)
    → (all : List D) → AllByRecursion (ReadsAgain inner reads prints canonical) all
    → map (λ f. reads f.line (fields_in f.value)) (all_trees prints n all) ≡ map canonical all
messages_again inner n reads prints canonical [] h = refl
messages_again inner n reads prints canonical (d ∷ ds) h =
    λ i. (ap (reads 0) (inside (prints d)) ∙ h.0.again) i ∷ messages_again inner n reads prints canonical ds h.1 i

-- ---- what is found in the groups of a message

module _ {m : Message} {gs : List Group} {others : List Field} (w : IsWhole m gs others) where
  pub text_found : (n : FieldName) (text : List ℕ) → is_known m n ≡ true → grouped n gs ≡ quoted n text ∷ [] → text_of n (whole gs others) ≡ text
  text_found n text known at =
      ap text_or_none (last-whole m n gs others w known) ∙ ap (λ (found : List Field). text_or_none (last_of found)) at

  pub type_found : (kind : PType) → is_known m name.Type ≡ true → grouped name.Type gs ≡ bare name.Type (type_word kind) ∷ []
      → type_in (last_value name.Type (whole gs others)) ≡ kind
  type_found kind known at =
      ap type_in (last-whole m name.Type gs others w known ∙ ap last_of at) ∙ type_again kind

  pub switch_found : (on : Bool) → is_known m name.ScaleAlongZ ≡ true → grouped name.ScaleAlongZ gs ≡ switch_tree name.ScaleAlongZ on
      → switch_in (last_value name.ScaleAlongZ (whole gs others)) ≡ on
  switch_found on known at =
      ap switch_in (last-whole m name.ScaleAlongZ gs others w known ∙ ap last_of at) ∙ switch_again on

  pub position_found : (p : Option V3) → GivenVectorFits p → is_known m name.Position ≡ true → grouped name.Position gs ≡ position_tree p
      → position_of (whole gs others) ≡ differing_vector (pos 0) p
  position_found p h known at =
      ap (option_map (λ v. vector_of (pos 0) (fields_in v)))
      (last-whole m name.Position gs others w known ∙ ap last_of at)
      ∙ given_again name.Position (pos 0) p h

  pub rotation_found : (p : Option V4) → GivenRotationFits p → is_known m name.Rotation ≡ true → grouped name.Rotation gs ≡ rotation_tree p
      → rotation_of (whole gs others) ≡ differing_rotation p
  rotation_found p h known at =
      ap (option_map (λ v. quaternion_of (fields_in v))) (last-whole m name.Rotation gs others w known ∙ ap last_of at) ∙ rotation_again p h

  pub scale3_found : (p : Option V3) → GivenVectorFits p → is_known m name.Scale3 ≡ true → is_known m name.Scale ≡ true
      → grouped name.Scale3 gs ≡ scale3_tree p → grouped name.Scale gs ≡ [] → scale3_of (whole gs others) ≡ differing_vector one p
  scale3_found p h known known_one at none =
      ap₂ scale_of (last-whole m name.Scale3 gs others w known ∙ ap last_of at) (last-whole m name.Scale gs others w known_one ∙ ap last_of none)
      ∙ scale_again p h

  pub children_found : (children : List ChildDesc) → is_known m name.Children ≡ true → grouped name.Children gs ≡ map child_tree children
      → children_of (whole gs others) ≡ map canonical_child children
  children_found children known at =
      ap (map child_of) (named-whole m name.Children gs others w known ∙ at) ∙ children_again children

  pub messages_found : {D : Type 0} (inner : Message) (n : FieldName) (reads : ℕ → List Field → D) (prints : D → List Field) (canonical : D → D)
      → (all : List D) → AllByRecursion (ReadsAgain inner reads prints canonical) all
      → is_known m n ≡ true → grouped n gs ≡ all_trees prints n all
      → all_of reads n (whole gs others) ≡ map canonical all
  messages_found inner n reads prints canonical all h known at =
      ap (map (λ f. reads f.line (fields_in f.value))) (named-whole m n gs others w known ∙ at)
      ∙ messages_again inner n reads prints canonical all h

  pub unknown_found : unknown m (whole gs others) ≡ others
  unknown_found = unknown-whole m gs others w

-- ---- a message

-- a message that is printed as groups reads again, if each of them does
pub reads_again : {D : Type 0} (m : Message) (reads : ℕ → List Field → D) (prints : D → List Field) (canonical : D → D) (d : D)
    (gs : List Group) (others : List Field) → is_closed m ≡ false → AreUnknown m others → AllByRecursion (IsGroup m) gs
    → prints d ≡ whole gs others → list_all (is_met m gs) (rows_of m) ≡ true
    → (IsWhole m gs others → reads 0 (whole gs others) ≡ canonical d)
    → ReadsAgain m reads prints canonical d
reads_again m reads prints canonical d gs others open_ unknown groups parts met again =
    let w = whole_of m gs others open_ unknown groups in
    record {
      no_fault = λ line. ap (fault_of m line) parts ∙ fault-whole m gs others w met line;
      again = ap (reads 0) parts ∙ again w;
    }
