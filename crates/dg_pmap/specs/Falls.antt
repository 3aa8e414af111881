-- Each half of a fork is lower than the fork.
use Rattle.std.specs.Prelude.{◌≡◌, ℕ, ◌+◌, ◌<◌, ◌≤◌, max}
use Rattle.std.proofs.Common.{arith}
use Rattle.dg_pmap.specs.Shape.{IsShaped}
use Rattle.dg_pmap.specs.declared.tree.Body.{Body}
use Rattle.dg_pmap.specs.declared.tree.Body.TheVariants.{Leaf, Fork}
use Rattle.dg_pmap.specs.declared.tree.Tree.TheDeep.{deep-Body}

pub depth_le-height : {K X : Type 0} (h : ℕ) (b : Body K X) → IsShaped h b → deep-Body K X b ≤ h
depth_le-height h (Leaf es) s = omega arith
depth_le-height h (Fork l k r) s = omega (arith, s.tall)
