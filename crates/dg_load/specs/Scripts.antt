-- Scripts: a node for each file, with what it declares.
use Rattle.std.specs.Prelude.{ℕ, List, Result, Ok, Err, fold}
use Rattle.dg_lua.specs.declared.declaration.Declaration.{Declaration}
use Rattle.dg_labels.specs.declared.kinds.TheConstants as kinds
use Rattle.dg_sources.specs.declared.bad.Unread.{Unread}
use Rattle.dg_sources.specs.declared.source.ScriptSource.{ScriptSource}
use Rattle.dg_load.specs.declared.draft.Draft.{Draft}
use Rattle.dg_load.specs.declared.state.Load.{Load}
use Rattle.dg_load.specs.Named.{put}
use Rattle.dg_load.specs.Draft.{file_made, refused}
use Rattle.dg_load.specs.Properties.{declared}

abbrev pub script_read : ℕ → List ℕ → Result (List Declaration) Unread → Draft → Draft
script_read k path (Ok ds) d = declared k ds d
script_read k path (Err why) d = refused k path why d

abbrev pub script : Load → ScriptSource → Load
script l s = record l {
  draft = script_read l.draft.makes s.path s.read (file_made kinds.SCRIPT_FILE s.path l.draft);
  scripts = put s.path l.draft.makes l.scripts;
}

abbrev pub scripts : List ScriptSource → Load → Load
scripts sources l = fold script l sources
