use Rattle.std.proofs.Common.{◌≡◌, ◌++◌, drop}
use Rattle.dg_desc.specs.Descs.{children_of}
use Rattle.dg_desc.proofs.parts.children_of.Given as goal

abbrev pub invariant-loop-field : goal.invariant-loop-field
invariant-loop-field l = l.all ++ children_of (drop l.field-index l.fields) ≡ children_of l.fields
