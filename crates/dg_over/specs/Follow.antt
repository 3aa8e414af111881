-- What a walk goes on to from a node.
use Rattle.std.specs.Prelude.{List}
use Rattle.dg_base.specs.declared.ids.NodeId.{NodeId}
use Rattle.dg_base.specs.Tables.{Tables}
use Rattle.dg_base.specs.Graph.{Graph}
use Rattle.dg_base.specs.Owned.{owned, taken_with}
use Rattle.dg_over.specs.declared.walk.Follow.{Follow}
use Rattle.dg_over.specs.declared.walk.Follow.TheVariants as follow

abbrev pub followed : Tables → Graph → Follow → NodeId → List NodeId
followed t g follow.Owned n = owned t g n
followed t g follow.Taken n = taken_with t g n
