use Rattle.std.proofs.Common.{◌≡◌, ◌++◌, take}
use Rattle.dg_report.specs.Parts.{behind_first}
use Rattle.dg_report.specs.Text.{value_text, field_text}
use Rattle.dg_report.proofs.values.+values.Given as goal

abbrev pub invariant-put_fields-loop-field : goal.invariant-put_fields-loop-field
invariant-put_fields-loop-field l =
    l.out.items ≡ l.initial.out.items ++ behind_first (field_text l.names) (take l.field-index l.rest)

abbrev pub invariant-put_items-loop-item : goal.invariant-put_items-loop-item
invariant-put_items-loop-item l =
    l.out.items ≡ l.initial.out.items ++ behind_first (value_text l.names) (take l.item-index l.rest)
