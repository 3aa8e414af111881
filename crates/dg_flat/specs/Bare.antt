-- The tables of a schema whose kinds have no labels, which the tests use.
use Rattle.std.specs.Prelude.{ℕ, ◌<◌, [], false, refl}
use Rattle.std.proofs.Common.{subst}
use borrow.Author.Count.{below_none}
use Rattle.dg_base.specs.declared.datum.Datum.TheVariants as datum
use Rattle.dg_base.specs.declared.schema.Role.{Role}
use Rattle.dg_base.specs.declared.schema.Role.TheVariants as role
use Rattle.dg_base.specs.declared.schema.Made.TheVariants as made
use Rattle.dg_base.specs.Tables.{Tables, AreTables}

abbrev pub bare_tables : Tables
bare_tables = record {
  labels = λ k. [];
  role = λ k l. role.Nothing;
  is_open = λ k. false;
  args = λ k l. [];
  preset = λ k l. datum.Nil;
  substitute = λ k l. datum.Nil;
  produce = λ k l args. made.Good datum.Nil;
}

none_below : (i : ℕ) → i < 0 → ⊥
none_below = below_none (λ k. ⊥)

abbrev IsNothing : Role → Type 0
IsNothing role.Nothing = Unit {0}
IsNothing _ = ⊥

pub bare_laws : AreTables bare_tables
bare_laws = record {
  low = λ k l h. absurd (none_below h.0 h.1);
  rise = λ k. refl;
  known = λ k l h. absurd (none_below h.0 h.1);
  others = λ k l h. absurd (h refl);
  preset_fits = λ k l ty h. absurd (subst IsNothing h tt);
  substitute_fits = λ k l ty array cascade h. absurd (subst IsNothing h tt);
  no_array_substitute = λ k l ty cascade h. subst IsNothing h tt;
  args_fit = λ k l a h. absurd (none_below h.0 h.1);
}
