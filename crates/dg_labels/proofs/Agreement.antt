-- What a name names has that name, where each thing in a table of names is known by its own line.
use Rattle.std.proofs.Common.{◌≡◌, ℕ, Bool, true, false, cond, List, [], ◌∷◌, Some, Option, sym, ap, ◌∙◌, refl, unwrap_or}
use Rattle.std.proofs.lemmas.Option.{none-some}
use Rattle.std.proofs.lemmas.Slice.Eq.{bytes_eq-Decides}
use Rattle.std.specs.Str.{bytes_eq}
use Rattle.dg_base.specs.declared.ids.Label.{Label}
use Rattle.dg_labels.specs.Names.{named_in}
use Rattle.dg_labels.specs.Labels.{label_names, name_of_label, label_named}

abbrev AreKnown : {X : Type 0} → (X → Option (List ℕ)) → List (X × List ℕ) → Type 0
AreKnown name [] = Unit {0}
AreKnown name (line ∷ lines) = (name line.0 ≡ Some line.1) × AreKnown name lines

by_test : {X : Type 0} (b : Bool) (name : X → Option (List ℕ)) (line : X × List ℕ) (text : List ℕ) (rest : Option X) (x : X) →
    bytes_eq text line.1 ≡ b → name line.0 ≡ Some line.1 → (rest ≡ Some x → name x ≡ Some text) →
    cond b (Some line.0) rest ≡ Some x → name x ≡ Some text
by_test true name line text rest x same known later is =
    ap name (sym (ap (λ o. unwrap_or o x) is)) ∙ known ∙ ap Some (sym ((bytes_eq-Decides text line.1).0 same))
by_test false name line text rest x same known later is = later is

in_table : {X : Type 0} (name : X → Option (List ℕ)) (lines : List (X × List ℕ)) (text : List ℕ) (x : X) →
    AreKnown name lines → named_in lines text ≡ Some x → name x ≡ Some text
in_table name [] text x known is = absurd (none-some x is)
in_table name (line ∷ lines) text x known is =
    by_test (bytes_eq text line.1) name line text (named_in lines text) x refl known.0 (in_table name lines text x known.1) is

all_known : AreKnown name_of_label label_names
all_known = search

pub name_of_named : (text : List ℕ) (label : Label) → label_named text ≡ Some label → name_of_label label ≡ Some text
name_of_named text label is = in_table name_of_label label_names text label all_known is
