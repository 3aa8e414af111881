-- A balanced tree has as many pairs as its height takes.
use Rattle.std.proofs.Common.{◌≡◌, ℕ, zero, suc, ◌+◌, ◌≤◌, ◌<◌, ◌⊎◌, ⊎_elim, max, Some, List, ◌++◌, length, arith, length-append, sym, subst, ap, ◌∙◌}
use Rattle.std.specs.declared.sync.Arc.{Arc}
use Rattle.std.specs.declared.alloc.Global.{Global}
use Rattle.dg_pmap.proofs.Splits.{IsSplit}
use Rattle.std.specs.Arc.{arc_value}
use Rattle.dg_pmap.specs.declared.tree.Body.{Body}
use Rattle.dg_pmap.specs.declared.tree.Body.TheVariants.{Leaf, Fork}
use Rattle.std.specs.declared.vec.Vec.{Vec}
use Rattle.dg_pmap.specs.Heights.{fewest}
use Rattle.dg_pmap.specs.Firsts.{first_key_of}
use Rattle.dg_pmap.specs.Shape.{pairs_in, IsShaped, IsChunk, IsFork}
use Rattle.dg_pmap.proofs.Heights.{fewest-join}

pub filled_fork : {K X : Type 0} (h : ℕ) (low : List (K × X) × ℕ) (split : K) (high : List (K × X) × ℕ) → IsFork h low split high → fewest h ≤ length (low.0 ++ high.0)
filled_fork h low split high s =
    let P : ℕ → Type 0 = λ n. fewest n ≤ length (low.0 ++ high.0) in
    subst P (sym s.tall) (omega (arith, fewest-join low.1 high.1 s.low_near s.high_near, s.low_filled, s.high_filled, length-append low.0 high.0))

pub filled : {K X : Type 0} (h : ℕ) (b : Body K X) → IsShaped h b → fewest h ≤ length (pairs_in b)
filled h (Leaf entries) s = let P : ℕ → Type 0 = λ n. fewest n ≤ length entries.items in subst P (sym s.flat) (omega (arith, s.some))
filled h (Fork low split high) s = filled_fork h (arc_value low) split (arc_value high) s

-- a fork is what its halves say, seen from outside
pub fork_of : {K X : Type 0} (h : ℕ) (b : Body K X) (v : List (K × X) × ℕ) (low : Arc (List (K × X) × ℕ) Global) (split : K) (high : Arc (List (K × X) × ℕ) Global) → b ≡ Fork low split high → IsShaped h b → (pairs_in b, h) ≡ v → IsFork v.1 (arc_value low) split (arc_value high)
fork_of h b v low split high e s is =
    let P : Body _ _ → Type 0 = λ x. IsShaped h x in
    let Q : ℕ → Type 0 = λ n. IsFork n (arc_value low) split (arc_value high) in
    subst Q (ap (λ x. x.1) is) (subst P e s)

pub split_of : {K X : Type 0} (h : ℕ) (b : Body K X) (v : List (K × X) × ℕ) (low : Arc (List (K × X) × ℕ) Global) (split : K) (high : Arc (List (K × X) × ℕ) Global) → b ≡ Fork low split high → IsShaped h b → (pairs_in b, h) ≡ v → IsSplit v.0 (arc_value low).0 split (arc_value high).0
split_of h b v low split high e s is = record { is = sym (ap pairs_in e) ∙ ap (λ x. x.0) is; first = (fork_of h b v low split high e s is).splits }

pub filled_outside : {K X : Type 0} (h : ℕ) (b : Body K X) (v : List (K × X) × ℕ) → IsShaped h b → (pairs_in b, h) ≡ v → fewest v.1 ≤ length v.0
filled_outside h b v s is = let P : List _ × ℕ → Type 0 = λ w. fewest w.1 ≤ length w.0 in subst P is (filled h b s)

-- ---- the fields of an open tree
pub fork_in : {K X : Type 0} (h : ℕ) (b : Body K X) (low : Arc (List (K × X) × ℕ) Global) (split : K) (high : Arc (List (K × X) × ℕ) Global) → b ≡ Fork low split high → IsShaped h b → IsFork h (arc_value low) split (arc_value high)
fork_in h b low split high e s = let P : Body _ _ → Type 0 = λ x. IsShaped h x in subst P e s

pub size_in : {K X : Type 0} (size : ℕ) (b : Body K X) (low : Arc (List (K × X) × ℕ) Global) (split : K) (high : Arc (List (K × X) × ℕ) Global) → b ≡ Fork low split high → size ≡ length (pairs_in b) → size ≡ length (arc_value low).0 + length (arc_value high).0
size_in size b low split high e s = s ∙ ap (λ x. length (pairs_in x)) e ∙ length-append (arc_value low).0 (arc_value high).0

pub chunk_in : {K X : Type 0} (h : ℕ) (b : Body K X) (entries : Vec (K × X) Global) → b ≡ Leaf entries → IsShaped h b → IsChunk h entries.items
chunk_in h b entries e s = let P : Body _ _ → Type 0 = λ x. IsShaped h x in subst P e s

-- a fork of which one half has changed and kept its height
pub fork_with_low : {K X : Type 0} (h : ℕ) (low low' : List (K × X) × ℕ) (split : K) (high : List (K × X) × ℕ) → IsFork h low split high → low'.1 ≡ low.1 → fewest low'.1 ≤ length low'.0 → IsFork h low' split high
fork_with_low h low low' split high f e l = record {
  tall = omega (arith, f.tall);
  low_near = omega (arith, f.low_near);
  high_near = omega (arith, f.high_near);
  low_filled = l;
  high_filled = f.high_filled;
  splits = f.splits;
}

pub fork_with_high : {K X : Type 0} (h : ℕ) (low : List (K × X) × ℕ) (split split' : K) (high high' : List (K × X) × ℕ) → IsFork h low split high → high'.1 ≡ high.1 → fewest high'.1 ≤ length high'.0 → first_key_of high'.0 ≡ Some split' → IsFork h low split' high'
fork_with_high h low split split' high high' f e l k = record {
  tall = omega (arith, f.tall);
  low_near = omega (arith, f.low_near);
  high_near = omega (arith, f.high_near);
  low_filled = f.low_filled;
  high_filled = l;
  splits = k;
}
