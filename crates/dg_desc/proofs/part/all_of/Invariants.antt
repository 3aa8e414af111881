use Rattle.std.proofs.Common.{◌≡◌, ◌++◌, drop}
use Rattle.dg_desc.specs.Descs.{all_of}
use Rattle.dg_desc.proofs.part.all_of.Given as goal

abbrev pub invariant-loop-field : goal.invariant-loop-field
invariant-loop-field g l = l.all ++ all_of g.P.Part.reads l.name (drop l.field-index l.fields) ≡ all_of g.P.Part.reads l.name l.fields
