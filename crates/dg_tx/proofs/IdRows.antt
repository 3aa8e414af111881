-- Ids in a row.
use Rattle.std.proofs.Common.{◌≡◌, ℕ, zero, suc, ◌+◌, ◌-◌, ◌<◌, List, [], ◌∷◌, ◌++◌, ap, ◌∙◌, arith}
use Rattle.dg_base.specs.declared.ids.NodeId.{NodeId}
use Rattle.dg_tx.specs.Ids.{ids_from, ids_between}

pub ids_between-more : (first end : ℕ) → first < end → ids_between first end ≡ record { 0 = first } ∷ ids_between (first + 1) end
ids_between-more first end lt =
    let e : end - first ≡ suc (end - (first + 1)) = omega arith in
    ap (λ (k : ℕ). ids_from k first) e

pub ids_between-none : (first end : ℕ) → first ≡ end → ids_between first end ≡ []
ids_between-none first end same =
    let e : end - first ≡ 0 = omega arith in
    ap (λ (k : ℕ). ids_from k first) e

pub ids_from-append : (j k m first next : ℕ) → first + j ≡ next → j + k ≡ m → ids_from j first ++ ids_from k next ≡ ids_from m first
ids_from-append zero k m first next at sum =
    let e : next ≡ first = omega arith in
    let f : k ≡ m = omega arith in
    ap (ids_from k) e ∙ ap (λ n. ids_from n first) f
ids_from-append (suc j) k zero first next at sum = absurd (omega arith)
ids_from-append (suc j) k (suc m) first next at sum =
    ap (λ (ns : List NodeId). record { 0 = first } ∷ ns) (ids_from-append j k m (first + 1) next (omega arith) (omega arith))
