-- What an evaluation has finished: endpoints with their values.
use Rattle.std.specs.Prelude.{List, drop, filter, length}
use Rattle.dg_base.specs.declared.ids.Endpoint.{Endpoint}
use Rattle.dg_base.specs.Tables.{Tables}
use Rattle.dg_base.specs.Graph.{Graph}
use Rattle.dg_base.specs.Evaluation.{Evaluated, evaluated, is_cached_at}
use Rattle.dg_cache.specs.declared.entry.Entry.{Entry}
use Rattle.dg_cache.specs.Entries.{ends_of}

-- a walk as far as it has come
abbrev pub so_far : List Entry → List Endpoint → Evaluated
so_far results hits = record { listed = ends_of results; hits = hits }

-- what is listed from an endpoint on, where these were listed and met before
abbrev pub newly_listed : Tables → Graph → List Endpoint → Evaluated → Endpoint → List Endpoint
newly_listed t g known w e = drop (length w.listed) (evaluated t g known w e).listed

-- the entries of the cached outputs, in order
abbrev pub cached_of : Tables → Graph → List Entry → List Entry
cached_of t g xs = filter (λ x. is_cached_at t g x.at) xs
