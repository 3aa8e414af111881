use Rattle.std.proofs.Common.{◌∙◌, ap, append_assoc}
use Rattle.dg_ptext.specs.Printed.{printed_value}
use Rattle.dg_ptext.proofs.Trees.{printed-Message}
use Rattle.dg_ptext.proofs.printing.+printing.Goals as goal

pub print_value-returns-in_ok-extend_from_slice-in-Message-4 :
    goal.print_value-returns-in_ok-extend_from_slice-in-Message-4
print_value-returns-in_ok-extend_from_slice-in-Message-4 t c =
    let whole = ap (printed_value c.args.margin.now) c.in-Message.is ∙ printed-Message c.args.margin.now c.in-Message.fields in
    rw (
      whole,
      c.in_ok-extend_from_slice-in-Message-4.ensures.items,
      c.in_ok-extend_from_slice-in-Message-3.ensures.items,
      c.in_ok-print_fields-in-Message.ensures,
      c.as_slice.ensures.value,
      c.in_ok-extend_from_slice-in-Message-2.ensures.items,
      c.in_ok-inner-in-Message.ensures.items,
      c.in_ok-extend_from_slice-in-Message.ensures.items,
      c.as_slice-in-Message.ensures,
    ) (simp append_assoc)
