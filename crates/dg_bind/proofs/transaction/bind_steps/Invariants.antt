use Rattle.std.proofs.Common.{◌≡◌, ◌+◌, drop}
use Rattle.dg_bind.specs.Steps.{bound_from, steps_bound}
use Rattle.dg_bind.proofs.transaction.bind_steps.Given as goal

abbrev pub invariant-loop-step : goal.invariant-loop-step
invariant-loop-step l = record {
  number : l.done ≡ l.step-index;
  rest : bound_from l.bindings (l.done + 1) (drop l.step-index l.words) (record { steps = l.bound.steps; new_names = l.bound.new_names; names = l.names }) ≡ steps_bound l.bindings l.initial.names l.words;
}
