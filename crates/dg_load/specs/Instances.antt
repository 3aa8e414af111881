-- Instances of game objects in a collection: those by a path, and those that stand in its text.
use Rattle.std.specs.Prelude.{ℕ, List, [], ◌∷◌, ◌++◌, length, codes, Option, Some, None, Result, Ok, Err, fold}
use Rattle.dg_base.specs.declared.ids.Kind.{Kind}
use Rattle.dg_labels.specs.declared.kinds.TheConstants as kinds
use Rattle.dg_labels.specs.declared.labels.TheConstants as labels
use Rattle.dg_desc.specs.declared.descs.GoDesc.{GoDesc}
use Rattle.dg_desc.specs.declared.descs.ChildDesc.{ChildDesc}
use Rattle.dg_desc.specs.declared.descs.CompPropsDesc.{CompPropsDesc}
use Rattle.dg_desc.specs.declared.descs.InstDesc.{InstDesc}
use Rattle.dg_desc.specs.declared.descs.EmbedInstDesc.{EmbedInstDesc}
use Rattle.dg_sources.specs.declared.bad.BadCode.TheVariants as bad
use Rattle.dg_sources.specs.declared.bad.Unread.{Unread}
use Rattle.dg_sources.specs.Readings.{object_in}
use Rattle.dg_load.specs.declared.draft.Draft.{Draft}
use Rattle.dg_load.specs.declared.draft.Place.{Place}
use Rattle.dg_load.specs.declared.components.Home.{Home}
use Rattle.dg_load.specs.declared.collections.Site.{Site}
use Rattle.dg_load.specs.declared.state.Load.{Load}
use Rattle.dg_load.specs.declared.state.Object.{Object}
use Rattle.dg_load.specs.declared.state.Instance.{Instance}
use Rattle.dg_load.specs.Named.{find, put}
use Rattle.dg_load.specs.Draft.{made, overridden, bound, set_text, placed, connected, marked, noted}
use Rattle.dg_load.specs.State.{on_draft}
use Rattle.dg_load.specs.Properties.{set_at}
use Rattle.dg_load.specs.Components.{components}
use Rattle.dg_load.specs.Objects.{object_kept, part_node}
use Rattle.dg_load.specs.Targets.{in_override, object_at}

-- ---- names

abbrev pub site_name : Site → List ℕ → List ℕ
site_name site id = (site.path ++ codes "#") ++ id

abbrev pub source_name : Site → List ℕ → List ℕ
source_name site id = site_name site id ++ codes "/source"

-- ---- the instance itself

abbrev pub instance_made : Kind → Site → List ℕ → Place → Draft → Draft
instance_made kind site id place d =
    placed d.makes place (set_text d.makes labels.ID id (bound (site_name site id) d.makes (made kind d)))

-- the children that it names
abbrev pub child_kept : ℕ → Load → ChildDesc → Load
child_kept parent l c = record l { children = l.children ++ record { parent = parent; line = c.line; id = c.id } ∷ [] }

abbrev pub children_kept : ℕ → List ChildDesc → Load → Load
children_kept parent children l = fold (child_kept parent) l children

abbrev pub instance_kept : List ℕ → Instance → List ChildDesc → Load → Load
instance_kept id i children l = children_kept i.node children (record l { instances = put id i l.instances })

-- it is connected to the collection
abbrev pub instance_connected : Site → ℕ → Draft → Draft
instance_connected site k d = connected k labels.INSTANCE site.node labels.INSTANCES d

-- ---- instances by a path

-- the properties that it gives the components of its game object
abbrev pub parts_set : Object → ℕ → List CompPropsDesc → Draft → Draft
parts_set object over descs d =
    fold (λ d c. set_at (in_override (Some over) (part_node object c.id)) c.properties d) d descs

-- the override of its prototype
abbrev pub prototype_made : Site → Object → ℕ → InstDesc → Draft → Draft
prototype_made site object k i d =
    connected d.makes labels.OBJECT k labels.SOURCE
    (parts_set object d.makes i.component_properties
    (bound (source_name site i.id) d.makes (overridden object.node d)))

-- the game object of its prototype
abbrev pub prototype_of : InstDesc → Load → Option Object
prototype_of i l = object_at l.objects (find l.object_files i.prototype)

abbrev pub prototype_steps : Site → ℕ → InstDesc → Option Object → Draft → Draft
prototype_steps site k i (Some object) d = prototype_made site object k i d
prototype_steps site k i None d = noted site.path i.line bad.Absent d

abbrev pub prototype_noted : Site → ℕ → InstDesc → Load → Load
prototype_noted site k i l = on_draft (prototype_steps site k i (prototype_of i l)) l

abbrev pub instance_of : ℕ → ℕ → Option ℕ → Option Object → Instance
instance_of k over place (Some object) = record { node = k; over = Some over; object = place }
instance_of k over place None = record { node = k; over = None; object = None }

abbrev pub prototyped : ℕ → InstDesc → Load → Instance
prototyped k i l = instance_of k l.draft.makes (find l.object_files i.prototype) (prototype_of i l)

abbrev pub place_of_inst : InstDesc → Place
place_of_inst i = record { position = i.position; rotation = i.rotation; scale3 = i.scale3 }

abbrev pub instance_placed : Site → InstDesc → Draft → Draft
instance_placed site i d = instance_made kinds.GO_INSTANCE site i.id (place_of_inst i) d

-- behind the instance itself
abbrev pub instance_behind : Site → ℕ → InstDesc → Load → Load
instance_behind site k i l =
    instance_kept i.id (prototyped k i l) i.children (on_draft (instance_connected site k) (prototype_noted site k i l))

abbrev pub instance : Site → Load → InstDesc → Load
instance site l i =
    instance_behind site l.draft.makes i (on_draft (instance_placed site i) l)

abbrev pub instances : Site → List InstDesc → Load → Load
instances site descs l = fold (instance site) l descs

-- ---- instances in the text

abbrev pub embedded_home : Site → ℕ → EmbedInstDesc → Home
embedded_home site k i =
    record { node = k; path = site.path; prefix = source_name site i.id ++ codes "#"; line = Some i.line }

-- the components of its text; without one that can be read it is defective
abbrev pub body_steps : List (List ℕ) → Site → ℕ → EmbedInstDesc → Result GoDesc Unread → Load → Load
body_steps listed site k i (Ok desc) l = components listed (embedded_home site k i) desc l
body_steps listed site k i (Err why) l = on_draft (λ d. noted site.path i.line bad.Data (marked k d)) l

abbrev pub body_read : List (List ℕ) → Site → ℕ → EmbedInstDesc → Load → Load
body_read listed site k i l = body_steps listed site k i (object_in i.body) l

abbrev pub embedded_object : List (List ℕ) → Site → EmbedInstDesc → Load → Load
embedded_object listed site i l =
    object_kept l.draft.makes
    (body_read listed site l.draft.makes i
    (on_draft (λ d. bound (source_name site i.id) d.makes (made kinds.GAME_OBJECT d)) l))

abbrev pub place_of_embedded : EmbedInstDesc → Place
place_of_embedded i = record { position = i.position; rotation = i.rotation; scale3 = i.scale3 }

-- behind the instance itself, where the object's node comes next
abbrev pub embedded_behind : List (List ℕ) → Site → ℕ → EmbedInstDesc → Load → Load
embedded_behind listed site k i l =
    instance_kept i.id (record { node = k; over = None; object = Some (length l.objects) }) i.children
    (on_draft (λ d. instance_connected site k (connected l.draft.makes labels.OBJECT k labels.SOURCE d))
    (embedded_object listed site i l))

abbrev pub embedded_instance : List (List ℕ) → Site → Load → EmbedInstDesc → Load
embedded_instance listed site l i =
    embedded_behind listed site l.draft.makes i
    (on_draft (instance_made kinds.GO_INSTANCE site i.id (place_of_embedded i)) l)

abbrev pub embedded_instances : List (List ℕ) → Site → List EmbedInstDesc → Load → Load
embedded_instances listed site descs l = fold (embedded_instance listed site) l descs
