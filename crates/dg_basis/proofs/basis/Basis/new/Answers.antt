use Rattle.dg_basis.proofs.Keeping.{kept-none}
use Rattle.dg_basis.proofs.basis.Basis.new.Goals as goal

pub invariant_of-result : goal.invariant_of-result
invariant_of-result c = rw (c.new.ensures, c.new-2.ensures, c.new-3.ensures) kept-none
