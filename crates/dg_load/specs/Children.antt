-- The children that the instances of a collection name.
use Rattle.std.specs.Prelude.{ℕ, List, Option, Some, None, fold}
use Rattle.dg_labels.specs.declared.labels.TheConstants as labels
use Rattle.dg_sources.specs.declared.bad.BadCode.TheVariants as bad
use Rattle.dg_load.specs.declared.draft.Draft.{Draft}
use Rattle.dg_load.specs.declared.collections.Site.{Site}
use Rattle.dg_load.specs.declared.state.Load.{Load}
use Rattle.dg_load.specs.declared.state.Instance.{Instance}
use Rattle.dg_load.specs.declared.state.Child.{Child}
use Rattle.dg_load.specs.Named.{find}
use Rattle.dg_load.specs.Draft.{connected, noted}
use Rattle.dg_load.specs.State.{on_draft}

-- the id of the last instance that has the child's id goes to the parent's children
abbrev pub child_steps : Site → Child → Option Instance → Draft → Draft
child_steps site c (Some i) d = connected i.node labels.ID c.parent labels.CHILDREN d
child_steps site c None d = noted site.path c.line bad.Absent d

abbrev pub child_connected : Site → List (List ℕ × Instance) → Draft → Child → Draft
child_connected site instances d c = child_steps site c (find instances c.id) d

abbrev pub children_connected : Site → Load → Load
children_connected site l = on_draft (λ d. fold (child_connected site l.instances) d l.children) l
