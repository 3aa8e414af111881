-- Types of properties, switches and children: what is printed of them may stand there, and reads as them.
use Rattle.std.proofs.Common.{◌≡◌, Bool, true, false, List, [], ◌∷◌, map, refl, ap, ◌∙◌}
use Rattle.std.specs.Option.{option_or}
use Rattle.dg_base.specs.declared.datum.PType.{PType}
use Rattle.dg_base.specs.declared.datum.PType.TheVariants as ptype
use Rattle.dg_ptext.specs.declared.tree.Field.{Field}
use Rattle.dg_desc.specs.declared.known.Message.{Message}
use Rattle.dg_desc.specs.declared.known.Message.TheVariants as messages
use Rattle.dg_desc.specs.declared.known.FieldName.TheVariants as name
use Rattle.dg_desc.specs.declared.known.Form.TheVariants as form
use Rattle.dg_desc.specs.declared.descs.ChildDesc.{ChildDesc}
use Rattle.dg_desc.specs.Known.{label_of, place_in}
use Rattle.dg_desc.specs.Words.{type_word}
use Rattle.dg_desc.specs.Faults.{fits_bare, fits_quoted, unless, fields_fault}
use Rattle.dg_desc.specs.Lookups.{type_in, switch_in}
use Rattle.dg_desc.specs.Descs.{child_of}
use Rattle.dg_desc.specs.Trees.{bare, switch_tree, child_tree}
use Rattle.dg_desc.specs.Canonical.{canonical_child}
use Rattle.dg_desc.proofs.Groups.{is_known, IsGroup, last_of}
use Rattle.dg_desc.proofs.Numbers.{word_group}

-- ---- words

pub type_again : (kind : PType) → type_in (last_of (bare name.Type (type_word kind) ∷ [])) ≡ kind
type_again ptype.Number = refl
type_again ptype.Hash = refl
type_again ptype.Url = refl
type_again ptype.Vector3 = refl
type_again ptype.Vector4 = refl
type_again ptype.Quat = refl
type_again ptype.Boolean = refl

type_fits : (kind : PType) → fits_bare form.PropertyType (type_word kind) ≡ true
type_fits ptype.Number = refl
type_fits ptype.Hash = refl
type_fits ptype.Url = refl
type_fits ptype.Vector3 = refl
type_fits ptype.Vector4 = refl
type_fits ptype.Quat = refl
type_fits ptype.Boolean = refl

pub type_group : (kind : PType) → IsGroup messages.Prop (name.Type, bare name.Type (type_word kind) ∷ [])
type_group kind = word_group messages.Prop name.Type (type_word kind) refl (type_fits kind) false

pub switch_again : (on : Bool) → switch_in (last_of (switch_tree name.ScaleAlongZ on)) ≡ on
switch_again true = refl
switch_again false = refl

pub switch_group : (on : Bool) → IsGroup messages.Coll (name.ScaleAlongZ, switch_tree name.ScaleAlongZ on)
switch_group true = record { known = refl; named = (refl, tt); fits = refl }
switch_group false = record { known = refl; named = tt; fits = refl }

-- ---- children

pub children_group : (m : Message) → is_known m name.Children ≡ true → (place_in m (label_of name.Children)).form ≡ form.Text
    → (children : List ChildDesc) → IsGroup m (name.Children, map child_tree children)
children_group m known is [] = record { known = known; named = tt; fits = refl }
children_group m known is (c ∷ cs) =
    let rest = children_group m known is cs in
    record {
      known = known;
      named = (refl, rest.named);
      fits =
          ap (λ f. option_or (unless (fits_quoted f c.id) 0 (place_in m (label_of name.Children))) (fields_fault m (map child_tree cs))) is
          ∙ rest.fits;
    }

pub children_again : (children : List ChildDesc) → map child_of (map child_tree children) ≡ map canonical_child children
children_again [] = refl
children_again (c ∷ cs) = ap (λ (rest : List ChildDesc). canonical_child c ∷ rest) (children_again cs)

pub children_printed : (children : List ChildDesc) → map child_tree (map canonical_child children) ≡ map child_tree children
children_printed [] = refl
children_printed (c ∷ cs) = ap (λ (rest : List Field). child_tree c ∷ rest) (children_printed cs)
