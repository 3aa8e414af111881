-- The names of the labels.
use Rattle.std.specs.Prelude.{ℕ, List, Option, map}
use Rattle.dg_base.specs.declared.ids.Label.{Label}
use Rattle.dg_base.specs.Same.{same_label}
use Rattle.dg_labels.specs.declared.labels.TheConstants.{LABELS}
use Rattle.dg_labels.specs.Names.{name_in, named_in}

abbrev pub label_names : List (Label × List ℕ)
label_names = map (λ line. (line.0, line.1.now)) LABELS

abbrev pub name_of_label : Label → Option (List ℕ)
name_of_label label = name_in same_label label_names label

abbrev pub label_named : List ℕ → Option Label
label_named text = named_in label_names text
