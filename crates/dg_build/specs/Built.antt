-- What the outputs `build` give.
use Rattle.std.specs.Prelude.{◌≡◌, List, true}
use Rattle.dg_base.specs.declared.datum.Datum.{Datum}
use Rattle.dg_base.specs.declared.schema.ArgVal.{ArgVal}
use Rattle.dg_base.specs.Value.{made_good}
use Rattle.dg_kinds_go.specs.Objects.{is_go_path, go_build}
use Rattle.dg_kinds_coll.specs.Collections.{is_collection_path, coll_build}
use Rattle.dg_build.specs.Contents.{path_in}

-- the value of a game object's build says the path of a game object
abbrev pub GameObjectsSayTheirPaths : Type 0
GameObjectsSayTheirPaths = (args : List ArgVal) (built : Datum) → go_build args ≡ made_good built → is_go_path (path_in built) ≡ true

-- and that of a collection's build the path of a collection
abbrev pub CollectionsSayTheirPaths : Type 0
CollectionsSayTheirPaths = (args : List ArgVal) (built : Datum) → coll_build args ≡ made_good built → is_collection_path (path_in built) ≡ true
