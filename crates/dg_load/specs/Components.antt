-- Components of a game object.
use Rattle.std.specs.Prelude.{ℕ, List, ◌++◌, Bool, true, false, ◌||◌, cond, codes, nat_eq, Option, Some, None, is_some, fold}
use Rattle.std.specs.List.{starts_with}
use Rattle.std.specs.Option.{option_or}
use Rattle.dg_base.specs.declared.datum.V3.{V3}
use Rattle.dg_base.specs.declared.datum.V4.{V4}
use Rattle.dg_base.specs.Names.{place_of}
use Rattle.dg_labels.specs.declared.kinds.TheConstants as kinds
use Rattle.dg_labels.specs.declared.labels.TheConstants as labels
use Rattle.dg_desc.specs.declared.descs.RefDesc.{RefDesc}
use Rattle.dg_desc.specs.declared.descs.EmbedDesc.{EmbedDesc}
use Rattle.dg_desc.specs.declared.descs.GoDesc.{GoDesc}
use Rattle.dg_sources.specs.declared.bad.BadCode.TheVariants as bad
use Rattle.dg_load.specs.declared.draft.Draft.{Draft}
use Rattle.dg_load.specs.declared.draft.Place.{Place}
use Rattle.dg_load.specs.declared.components.Home.{Home}
use Rattle.dg_load.specs.declared.state.Load.{Load}
use Rattle.dg_load.specs.Named.{find, put}
use Rattle.dg_load.specs.Draft.{new, made, bound, set_text, placed, connected, noted}
use Rattle.dg_load.specs.State.{on_draft}
use Rattle.dg_load.specs.Properties.{set_properties}

-- the line of a bad place: inside an embedded instance's text that of the instance
abbrev pub line_or : ℕ → Option ℕ → ℕ
line_or line None = line
line_or line (Some outer) = outer

abbrev pub line_in : Home → ℕ → ℕ
line_in h line = line_or line h.line

-- ---- resources

-- a path that is no script's may name any file that is listed, and what is built in
abbrev pub is_resource : List (List ℕ) → List ℕ → Bool
is_resource listed path = is_some (place_of listed path) || starts_with nat_eq path (codes "/builtins/")

-- the node that a path has already: a script comes first
abbrev pub known_node : List ℕ → Load → Option ℕ
known_node path l = option_or (find l.scripts path) (find l.resources path)

-- the node of a path that has none yet
abbrev pub new_node : Bool → ℕ → Option ℕ
new_node true next = Some next
new_node false next = None

abbrev pub resource_node : List (List ℕ) → List ℕ → Load → Option ℕ
resource_node listed path l = option_or (known_node path l) (new_node (is_resource listed path) l.draft.makes)

abbrev pub resource_made : List ℕ → Load → Load
resource_made path l = record l {
  draft = set_text l.draft.makes labels.PATH path (made kinds.RESOURCE_FILE l.draft);
  resources = put path l.draft.makes l.resources;
}

-- a resource is made where a path is first named
abbrev pub with_resource : List (List ℕ) → List ℕ → Load → Load
with_resource listed path l =
    cond (is_some (known_node path l)) l (cond (is_resource listed path) (resource_made path l) l)

-- ---- components by a path

abbrev pub unscaled : Option V3 → Option V4 → Place
unscaled position rotation = record { position = position; rotation = rotation; scale3 = None }

abbrev pub source_noted : Home → ℕ → Option ℕ → Draft → Draft
source_noted h line (Some source) d = d
source_noted h line None d = noted h.path (line_in h line) bad.Absent d

abbrev pub source_connected : Option ℕ → ℕ → Draft → Draft
source_connected None k d = d
source_connected (Some source) k d = connected source labels.RESOURCE k labels.RESOURCE d

abbrev pub reference_made : Home → RefDesc → Option ℕ → Draft → Draft
reference_made h c source d =
    connected d.makes labels.COMPONENT h.node labels.COMPONENTS
    (source_connected source d.makes
    (set_properties (new d.makes) c.properties
    (placed d.makes (unscaled c.position c.rotation)
    (set_text d.makes labels.ID c.id
    (bound (h.prefix ++ c.id) d.makes
    (made kinds.COMPONENT_REF d))))))

abbrev pub with_part : List ℕ → Bool → (Draft → Draft) → Load → Load
with_part id is_ref change l = record l {
  draft = change l.draft;
  parts = put id (record { node = l.draft.makes; is_ref = is_ref }) l.parts;
}

abbrev pub reference : List (List ℕ) → Home → Load → RefDesc → Load
reference listed h l c =
    with_part c.id true (reference_made h c (resource_node listed c.component l))
    (on_draft (source_noted h c.line (resource_node listed c.component l)) (with_resource listed c.component l))

-- ---- components in a text

abbrev pub embedded_made : Home → EmbedDesc → Draft → Draft
embedded_made h c d =
    connected d.makes labels.COMPONENT h.node labels.COMPONENTS
    (placed d.makes (unscaled c.position c.rotation)
    (set_text d.makes labels.DATA c.body
    (set_text d.makes labels.TYPE c.kind
    (set_text d.makes labels.ID c.id
    (bound (h.prefix ++ c.id) d.makes
    (made kinds.COMPONENT_EMBEDDED d))))))

abbrev pub embedded : Home → Load → EmbedDesc → Load
embedded h l c = with_part c.id false (embedded_made h c) l

-- ---- all of them

abbrev pub components : List (List ℕ) → Home → GoDesc → Load → Load
components listed h desc l = fold (embedded h) (fold (reference listed h) l desc.components) desc.embedded_components
