-- The names of the kinds.
use Rattle.std.specs.Prelude.{ℕ, List, Option, map, ◌==◌}
use Rattle.dg_base.specs.declared.ids.Kind.{Kind}
use Rattle.dg_labels.specs.declared.kinds.TheConstants.{KINDS}
use Rattle.dg_labels.specs.Names.{name_in, named_in}

abbrev pub kind_names : List (Kind × List ℕ)
kind_names = map (λ line. (line.0, line.1.now)) KINDS

abbrev pub name_of_kind : Kind → Option (List ℕ)
name_of_kind kind = name_in (λ a b. a.0 == b.0) kind_names kind

abbrev pub kind_named : List ℕ → Option Kind
kind_named text = named_in kind_names text
