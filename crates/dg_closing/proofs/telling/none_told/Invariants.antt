use Rattle.std.proofs.Common.{◌≡◌, ℕ, Some, true, slice_get}
use Rattle.dg_closing.proofs.telling.none_told.Given as goal

abbrev pub invariant-loop : goal.invariant-loop
invariant-loop l = (k : ℕ) → slice_get l.told.items k ≡ Some true → ⊥
