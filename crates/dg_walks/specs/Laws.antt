-- What holds of the walk of every evaluation, as statements that contracts name.
use Rattle.std.specs.Prelude.{◌≡◌, List}
use Rattle.dg_base.specs.declared.ids.Endpoint.{Endpoint}
use Rattle.dg_base.specs.Tables.{Tables}
use Rattle.dg_base.specs.Graph.{Graph}
use Rattle.dg_base.specs.Evaluation.{nothing_evaluated, evaluated}

-- a walk of which the hits of another one alone are known lists the same, and has the same hits
abbrev pub HitsAreEnough : Tables → Type 0
HitsAreEnough t =
    (g : Graph) (known : List Endpoint) (e : Endpoint) →
    evaluated t g (evaluated t g known nothing_evaluated e).hits nothing_evaluated e ≡ evaluated t g known nothing_evaluated e
