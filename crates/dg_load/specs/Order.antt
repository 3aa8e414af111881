-- The order in which collections are filled: before each those that its instances name.
use Rattle.std.specs.Prelude.{ℕ, zero, suc, List, [], ◌∷◌, ◌++◌, cond, length, slice_get, Option, Some, None, is_some, Result, Ok, Err, fold}
use Rattle.dg_desc.specs.declared.descs.CollDesc.{CollDesc}
use Rattle.dg_desc.specs.declared.descs.CollInstDesc.{CollInstDesc}
use Rattle.dg_sources.specs.declared.bad.Unread.{Unread}
use Rattle.dg_sources.specs.declared.source.CollSource.{CollSource}
use Rattle.dg_load.specs.declared.order.Walk.{Walk}
use Rattle.dg_load.specs.Named.{find, put}

-- the instances of collections that a file has
abbrev pub named_by : Result CollDesc Unread → List CollInstDesc
named_by (Ok desc) = desc.collection_instances
named_by (Err why) = []

abbrev pub named_of : Option CollSource → List CollInstDesc
named_of None = []
named_of (Some s) = named_by s.read

abbrev pub named_in : List CollSource → ℕ → List CollInstDesc
named_in sources at = named_of (slice_get sources at)

abbrev pub begin : List ℕ → ℕ → Walk → Walk
begin path at w = record w { begun = put path at w.begun }

abbrev pub finish : ℕ → Walk → Walk
finish at w = record w { done = w.done ++ at ∷ [] }

-- a collection that wasn't begun, where `inside` walks those that it names
abbrev pub visit_at : List CollSource → (Walk → List ℕ → Walk) → Walk → List ℕ → Option ℕ → Walk
visit_at sources inside w path None = w
visit_at sources inside w path (Some at) =
    finish at (fold (λ w i. inside w i.collection) (begin path at w) (named_in sources at))

-- the collection of a path and, before it, those that it names, unless they are begun. Each level begins another one,
-- so there are never more levels than collections
abbrev pub visit : ℕ → List CollSource → List (List ℕ × ℕ) → Walk → List ℕ → Walk
visit zero sources places w path = w
visit (suc levels) sources places w path =
    cond (is_some (find w.begun path)) w (visit_at sources (visit levels sources places) w path (find places path))

abbrev pub visit_all : List CollSource → List (List ℕ × ℕ) → Walk → Walk
visit_all sources places w = fold (λ w s. visit (length sources) sources places w s.path) w sources

-- all collections, one after the other
abbrev pub order_of : List CollSource → List (List ℕ × ℕ) → List ℕ
order_of sources places = (visit_all sources places (record { begun = []; done = [] })).done
