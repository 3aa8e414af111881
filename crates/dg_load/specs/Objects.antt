-- Game objects: a node for each file, with its components.
use Rattle.std.specs.Prelude.{ℕ, List, [], ◌∷◌, ◌++◌, length, cond, codes, Option, Some, None, Result, Ok, Err, fold}
use Rattle.dg_labels.specs.declared.kinds.TheConstants as kinds
use Rattle.dg_desc.specs.declared.descs.GoDesc.{GoDesc}
use Rattle.dg_sources.specs.declared.bad.Unread.{Unread}
use Rattle.dg_sources.specs.declared.source.GoSource.{GoSource}
use Rattle.dg_load.specs.declared.components.Home.{Home}
use Rattle.dg_load.specs.declared.state.Load.{Load}
use Rattle.dg_load.specs.declared.state.Object.{Object}
use Rattle.dg_load.specs.declared.state.Part.{Part}
use Rattle.dg_load.specs.Named.{find, put}
use Rattle.dg_load.specs.Draft.{file_made, refused}
use Rattle.dg_load.specs.State.{on_draft}
use Rattle.dg_load.specs.Components.{components}

abbrev pub object_home : ℕ → List ℕ → Home
object_home k path = record { node = k; path = path; prefix = path ++ codes "#"; line = None }

abbrev pub object_read : List (List ℕ) → ℕ → List ℕ → Result GoDesc Unread → Load → Load
object_read listed k path (Ok desc) l = components listed (object_home k path) desc l
object_read listed k path (Err why) l = on_draft (refused k path why) l

-- the game object whose components were made is put among those that are there
abbrev pub object_kept : ℕ → Load → Load
object_kept k l = record l { objects = l.objects ++ record { node = k; parts = l.parts } ∷ []; parts = [] }

abbrev pub file_kept : List ℕ → ℕ → Load → Load
file_kept path k l = record (object_kept k l) { object_files = put path (length l.objects) l.object_files }

abbrev pub object_file : List (List ℕ) → Load → GoSource → Load
object_file listed l s =
    file_kept s.path l.draft.makes
    (object_read listed l.draft.makes s.path s.read (on_draft (file_made kinds.GAME_OBJECT s.path) l))

abbrev pub object_files : List (List ℕ) → List GoSource → Load → Load
object_files listed sources l = fold (object_file listed) l sources

-- ---- components by their ids

-- the last component of an id, where it is one by a path
abbrev pub ref_node : Option Part → Option ℕ
ref_node None = None
ref_node (Some p) = cond p.is_ref (Some p.node) None

abbrev pub part_node : Object → List ℕ → Option ℕ
part_node o id = ref_node (find o.parts id)
