use Rattle.std.proofs.Common.{◌≡◌, ◌++◌, take}
use Rattle.dg_ptext.specs.Printed.{printed}
use Rattle.dg_ptext.proofs.printing.+printing.Given as goal

abbrev pub invariant-print_fields-loop-field : goal.invariant-print_fields-loop-field
invariant-print_fields-loop-field l = l.out.items ≡ l.fn.out.items ++ printed l.margin (take l.field-index l.fields)
