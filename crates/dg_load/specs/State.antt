-- The loader between two of its parts: what it has made, and where it finds what a later part names.
use Rattle.std.specs.Prelude.{ℕ, List, []}
use Rattle.dg_load.specs.declared.draft.Draft.{Draft}
use Rattle.dg_load.specs.declared.state.Load.{Load}
use Rattle.dg_load.specs.Draft.{started}

abbrev pub start : List (List ℕ) → Load
start names = record {
  draft = started names;
  scripts = [];
  resources = [];
  parts = [];
  objects = [];
  object_files = [];
  collections = [];
  collection_files = [];
  instances = [];
  subs = [];
  children = [];
  filled = [];
  filled_files = [];
}

abbrev pub on_draft : (Draft → Draft) → Load → Load
on_draft change l = record l { draft = change l.draft }
