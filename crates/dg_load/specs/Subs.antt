-- Instances of collections in a collection.
use Rattle.std.specs.Prelude.{ℕ, List, Bool, true, false, Option, Some, None, is_some, slice_get, fold}
use Rattle.dg_labels.specs.declared.kinds.TheConstants as kinds
use Rattle.dg_labels.specs.declared.labels.TheConstants as labels
use Rattle.dg_desc.specs.declared.descs.CompPropsDesc.{CompPropsDesc}
use Rattle.dg_desc.specs.declared.descs.InstPropsDesc.{InstPropsDesc}
use Rattle.dg_desc.specs.declared.descs.CollInstDesc.{CollInstDesc}
use Rattle.dg_sources.specs.declared.bad.BadCode.TheVariants as bad
use Rattle.dg_load.specs.declared.draft.Draft.{Draft}
use Rattle.dg_load.specs.declared.draft.Place.{Place}
use Rattle.dg_load.specs.declared.collections.Site.{Site}
use Rattle.dg_load.specs.declared.state.Load.{Load}
use Rattle.dg_load.specs.declared.state.Object.{Object}
use Rattle.dg_load.specs.declared.state.Sub.{Sub}
use Rattle.dg_load.specs.declared.state.Filled.{Filled}
use Rattle.dg_load.specs.declared.subs.Found.{Found}
use Rattle.dg_load.specs.Named.{find, put}
use Rattle.dg_load.specs.Draft.{overridden, bound, connected, marked, noted}
use Rattle.dg_load.specs.State.{on_draft}
use Rattle.dg_load.specs.Properties.{set_at}
use Rattle.dg_load.specs.Targets.{under, target, ids_in}
use Rattle.dg_load.specs.Instances.{source_name, instance_made}

-- ---- what it gives the components in it

-- the components of one instance, each through the override of the collection
abbrev pub comps_set : List Object → List Filled → ℕ → ℕ → List (List ℕ) → List CompPropsDesc → Draft → Draft
comps_set objects filled place over ids descs d =
    fold (λ d c. set_at (under over (target objects filled place ids c.id)) c.properties d) d descs

abbrev pub insts_set : List Object → List Filled → ℕ → ℕ → List InstPropsDesc → Draft → Draft
insts_set objects filled place over descs d =
    fold (λ d i. comps_set objects filled place over (ids_in i.id) i.properties d) d descs

-- ---- the collection that it names

-- one that is filled
abbrev pub place_with : ℕ → Option Filled → Option Found
place_with place None = None
place_with place (Some f) = Some (record { node = f.node; place = place })

abbrev pub filled_at : List Filled → Option ℕ → Option Found
filled_at filled None = None
filled_at filled (Some place) = place_with place (slice_get filled place)

-- its override
abbrev pub sub_made : Site → List Object → List Filled → ℕ → ℕ → ℕ → CollInstDesc → Draft → Draft
sub_made site objects filled place root k i d =
    connected d.makes labels.FLAT k labels.SOURCE
    (insts_set objects filled place d.makes i.instance_properties
    (bound (source_name site i.id) d.makes (overridden root d)))

-- one that isn't filled: a collection of the project is being filled, and any other is absent
abbrev pub sub_absent : Site → Bool → ℕ → CollInstDesc → Draft → Draft
sub_absent site true k i d = noted site.path i.line bad.Recursive (marked k d)
sub_absent site false k i d = noted site.path i.line bad.Absent d

abbrev pub sub_steps : Site → ℕ → CollInstDesc → Load → Option Found → Draft → Draft
sub_steps site k i l (Some f) d = sub_made site l.objects l.filled f.place f.node k i d
sub_steps site k i l None d = sub_absent site (is_some (find l.collection_files i.collection)) k i d

abbrev pub found_in : CollInstDesc → Load → Option Found
found_in i l = filled_at l.filled (find l.filled_files i.collection)

abbrev pub sub_noted : Site → ℕ → CollInstDesc → Load → Load
sub_noted site k i l = on_draft (sub_steps site k i l (found_in i l)) l

abbrev pub sub_at : ℕ → Option Found → Option Sub
sub_at over None = None
sub_at over (Some f) = Some (record { over = over; filled = f.place })

abbrev pub sub_of : CollInstDesc → Load → Option Sub
sub_of i l = sub_at l.draft.makes (found_in i l)

-- ---- all of it

abbrev pub place_of_sub : CollInstDesc → Place
place_of_sub i = record { position = i.position; rotation = i.rotation; scale3 = i.scale3 }

abbrev pub sub_kept : List ℕ → Option Sub → Load → Load
sub_kept id s l = record l { subs = put id s l.subs }

-- behind the instance itself
abbrev pub sub_behind : Site → ℕ → CollInstDesc → Load → Load
sub_behind site k i l =
    sub_kept i.id (sub_of i l)
    (on_draft (connected k labels.INSTANCE site.node labels.SUBS) (sub_noted site k i l))

abbrev pub collection_instance : Site → Load → CollInstDesc → Load
collection_instance site l i =
    sub_behind site l.draft.makes i (on_draft (instance_made kinds.COLL_INSTANCE site i.id (place_of_sub i)) l)

abbrev pub collection_instances : Site → List CollInstDesc → Load → Load
collection_instances site descs l = fold (collection_instance site) l descs
