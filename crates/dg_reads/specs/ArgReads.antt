-- What an output may read: an input, the open values, or an input with a source on one of some nodes.
use Rattle.std.specs.Prelude.{Bool}
use Rattle.dg_base.specs.declared.ids.NodeId.{NodeId}
use Rattle.dg_base.specs.declared.schema.ArgSpec.{ArgSpec}
use Rattle.dg_base.specs.Same.{same_label}
use Rattle.dg_base.specs.Graph.{Graph}
use Rattle.dg_base.specs.Touched.{is_open_arg, is_input_arg, is_fed_by}
use Rattle.dg_reads.specs.declared.readers.Reads.{Reads}
use Rattle.dg_reads.specs.declared.readers.Reads.TheVariants as reads

-- whether an argument of an output of a node is such a one
abbrev pub is_read : Graph → NodeId → Reads → ArgSpec → Bool
is_read g n (reads.Input i) = is_input_arg (same_label i)
is_read g n reads.Open = is_open_arg
is_read g n (reads.Fed ns) = is_input_arg (is_fed_by g ns n)
