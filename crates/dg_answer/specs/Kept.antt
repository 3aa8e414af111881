-- Faults that are kept one after the other.
use Rattle.std.specs.Prelude.{List, [], ◌∷◌, ◌++◌, cond, not, ◌&&◌, length, nat_lt}
use Rattle.std.specs.List.{list_any}
use Rattle.dg_base.specs.declared.answer.Fault.{Fault}
use Rattle.dg_base.specs.Same.{same_fault}
use Rattle.dg_base.specs.Value.{max_faults}

-- one more fault is kept where there is room and no equal one
abbrev pub keep_one : List Fault → Fault → List Fault
keep_one ks f = cond (nat_lt (length ks) max_faults && not (list_any (λ k. same_fault k f) ks)) (ks ++ f ∷ []) ks

abbrev pub keep_all : List Fault → List Fault → List Fault
keep_all ks [] = ks
keep_all ks (f ∷ fs) = keep_all (keep_one ks f) fs
