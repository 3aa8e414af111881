use Rattle.std.proofs.Common.{Bool, true, false, ℕ, List, [], ◌∷◌, Option, Some, None, codes, bytes_eq, ap, sym, inl, inr, true≢false}
use Rattle.dg_deeds.specs.Deeds.{IsBegun}
use Rattle.dg_deeds.specs.declared.deed.Stop.TheVariants as stop
use Rattle.dg_deeds.specs.Worked.{two_builds, tree_before}
use Rattle.dg_deeds.proofs.worked.needs_the_file_first.Goals as goal

abbrev is_old : Option (List ℕ) → Bool
is_old None = false
is_old (Some bytes) = bytes_eq bytes (codes "old")

abbrev is_line : Option (List ℕ) → Bool
is_line (Some (b ∷ bs)) = true
is_line _ = false

-- the file that is written next leaves the first one what it has, which is what was written
never : IsBegun stop.FileFault two_builds (Some tree_before) (Some tree_before) (Some []) (Some (codes "1: a ")) → ⊥
never (inl part) = true≢false (ap is_line part.1)
never (inr (inl part)) = part
never (inr (inr (inl part))) =
    true≢false (ap is_old (part.0.others (codes "/a") (λ e. true≢false (sym (ap (λ p. bytes_eq p (codes "/b")) e)))))
never (inr (inr (inr (inl part)))) = part
never (inr (inr (inr (inr behind)))) = behind

pub returns-clause-file : goal.returns-clause-file
returns-clause-file c = never
