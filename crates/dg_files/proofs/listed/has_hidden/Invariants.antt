use Rattle.std.proofs.Common.{◌≡◌, true, drop}
use Rattle.dg_files.specs.Tree.{has_hidden}
use Rattle.dg_files.proofs.listed.has_hidden.Given as goal

abbrev pub invariant-loop-byte : goal.invariant-loop-byte
invariant-loop-byte l = has_hidden l.at_start (drop l.byte-index l.path) ≡ has_hidden true l.path
