-- Properties that a script or a component has by their ids. An id is interned where its property is set.
use Rattle.std.specs.Prelude.{ℕ, List, length, Option, Some, None, fold}
use Rattle.dg_base.specs.declared.ids.Label.{Label}
use Rattle.dg_base.specs.declared.datum.Datum.{Datum}
use Rattle.dg_base.specs.declared.datum.Datum.TheVariants as datum
use Rattle.dg_base.specs.declared.datum.PType.{PType}
use Rattle.dg_base.specs.declared.step.NodeRef.{NodeRef}
use Rattle.dg_base.specs.declared.step.Step.TheVariants as step
use Rattle.dg_base.specs.Names.{interned, label_at, place_of}
use Rattle.dg_lua.specs.declared.declaration.Declaration.{Declaration}
use Rattle.dg_desc.specs.declared.descs.PropDesc.{PropDesc}
use Rattle.dg_load.specs.declared.draft.Draft.{Draft}
use Rattle.dg_load.specs.Draft.{new, stepped}

-- where a text stands, or comes to stand, among interned names
abbrev pub place_or : ℕ → Option ℕ → ℕ
place_or other None = other
place_or other (Some place) = place

abbrev pub label_in : List (List ℕ) → List ℕ → Label
label_in names id = label_at (place_or (length names) (place_of names id))

abbrev pub property : Label → PType → List ℕ → Datum
property label ptype words = datum.Prop (record { name = label; ptype = ptype; text = words })

abbrev pub set_open : NodeRef → List ℕ → PType → List ℕ → Draft → Draft
set_open at id ptype words d =
    stepped (step.Set at (label_in d.names id) (property (label_in d.names id) ptype words)) (record d { names = interned d.names id })

-- what a script declares
abbrev pub declared : ℕ → List Declaration → Draft → Draft
declared k ds d = fold (λ d one. set_open (new k) one.id one.ptype one.text d) d ds

-- what a component is given
abbrev pub set_properties : NodeRef → List PropDesc → Draft → Draft
set_properties at properties d = fold (λ d p. set_open at p.id p.kind p.value d) d properties

-- the same, where the component was found
abbrev pub set_at : Option NodeRef → List PropDesc → Draft → Draft
set_at None properties d = d
set_at (Some at) properties d = set_properties at properties d
