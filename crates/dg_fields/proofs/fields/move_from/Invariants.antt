use Rattle.std.proofs.Common.{◌≡◌, ◌+◌, ◌≤◌, ◌++◌, length, take, drop, reverse, vec_len}
use Rattle.std.specs.Vec.{vec_capacity}
use Rattle.dg_fields.proofs.fields.move_from.Given as goal

abbrev pub invariant-loop-fields : goal.invariant-loop-fields
invariant-loop-fields l = record {
  within : l.place ≤ length l.fields;
  rest : take l.place l.fields ≡ take l.place l.initial.fields;
  moved : l.all.items ++ reverse (drop l.place l.fields) ≡ l.initial.all.items ++ reverse (drop l.place l.initial.fields);
  count : vec_len l.all + length l.fields ≡ vec_len l.initial.all + length l.initial.fields;
  room : vec_capacity l.all ≡ vec_capacity l.initial.all;
}

abbrev pub decreases-loop-fields : goal.decreases-loop-fields
decreases-loop-fields l = length l.fields
