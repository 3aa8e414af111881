-- Collections: a node for each file, and then what fills them.
use Rattle.std.specs.Prelude.{ℕ, List, [], ◌∷◌, ◌++◌, Bool, true, cond, length, slice_get, Option, Some, Result, Ok, Err, fold}
use Rattle.dg_base.specs.declared.datum.Datum.TheVariants as datum
use Rattle.dg_labels.specs.declared.kinds.TheConstants as kinds
use Rattle.dg_labels.specs.declared.labels.TheConstants as labels
use Rattle.dg_desc.specs.declared.descs.CollDesc.{CollDesc}
use Rattle.dg_sources.specs.declared.bad.Unread.{Unread}
use Rattle.dg_sources.specs.declared.source.CollSource.{CollSource}
use Rattle.dg_load.specs.declared.draft.Draft.{Draft}
use Rattle.dg_load.specs.declared.collections.Site.{Site}
use Rattle.dg_load.specs.declared.state.Load.{Load}
use Rattle.dg_load.specs.Named.{put}
use Rattle.dg_load.specs.Draft.{file_made, refused, set, set_text}
use Rattle.dg_load.specs.Instances.{instances, embedded_instances}
use Rattle.dg_load.specs.Subs.{collection_instances}
use Rattle.dg_load.specs.Children.{children_connected}

-- ---- the nodes of the files

abbrev pub switch_set : ℕ → Bool → Draft → Draft
switch_set k is_on d = cond is_on (set k labels.SCALE_ALONG_Z (datum.Flag true) d) d

abbrev pub head_set : ℕ → List ℕ → Result CollDesc Unread → Draft → Draft
head_set k path (Ok desc) d = switch_set k desc.scale_along_z (set_text k labels.NAME desc.name d)
head_set k path (Err why) d = refused k path why d

abbrev pub collection_file : Load → CollSource → Load
collection_file l s = record l {
  draft = head_set l.draft.makes s.path s.read (file_made kinds.COLLECTION s.path l.draft);
  collections = l.collections ++ l.draft.makes ∷ [];
  collection_files = put s.path (length l.collections) l.collection_files;
}

abbrev pub collection_files : List CollSource → Load → Load
collection_files sources l = fold collection_file l sources

-- ---- what fills them

abbrev pub filled_with : List (List ℕ) → Site → Result CollDesc Unread → Load → Load
filled_with listed site (Ok desc) l =
    children_connected site
    (collection_instances site desc.collection_instances
    (embedded_instances listed site desc.embedded_instances
    (instances site desc.instances l)))
filled_with listed site (Err why) l = l

-- it is put among those that are filled
abbrev pub filling_kept : ℕ → Load → Load
filling_kept k l = record l {
  instances = [];
  subs = [];
  children = [];
  filled = l.filled ++ record { node = k; instances = l.instances; subs = l.subs } ∷ [];
}

abbrev pub filled_kept : Site → Load → Load
filled_kept site l = record (filling_kept site.node l) { filled_files = put site.path (length l.filled) l.filled_files }

abbrev pub fill_one : List (List ℕ) → Option CollSource → Option ℕ → Load → Load
fill_one listed (Some s) (Some k) l =
    filled_kept (record { path = s.path; node = k }) (filled_with listed (record { path = s.path; node = k }) s.read l)
fill_one listed _ _ l = l

-- the collection of the file at this place
abbrev pub fill_at : List (List ℕ) → List CollSource → Load → ℕ → Load
fill_at listed sources l at = fill_one listed (slice_get sources at) (slice_get l.collections at) l

abbrev pub fill_all : List (List ℕ) → List CollSource → List ℕ → Load → Load
fill_all listed sources order l = fold (fill_at listed sources) l order
