use Rattle.std.proofs.Common.{◌∙◌, ap, sym}
use Rattle.dg_desc.specs.Faults.{value_fault, fault_of}
use Rattle.dg_desc.proofs.Messages.{fault-Inner}
use Rattle.dg_desc.proofs.check.+check.Goals as goal

pub value_fault-returns-in-Inner : goal.value_fault-returns-in-Inner
value_fault-returns-in-Inner t c =
    let m = c.in-Inner.message in
    c.fault_of.ensures
    ∙ ap (fault_of m c.args.line) c.as_slice.ensures
    ∙ sym (fault-Inner c.args.place m c.args.line c.in-Message.fields c.in-Inner.is)
    ∙ sym (ap (value_fault c.args.place c.args.line) c.in-Message.is)
