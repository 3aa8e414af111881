-- What was done with a pass, and what all passes of a pool say together.
use Rattle.std.specs.Prelude.{◌≡◌, ℕ, ◌+◌, ◌<◌, List, [], ◌∷◌, Bool, if◌then◌else◌, Option, Some, None, Result, Ok, Err, refl}
use Rattle.std.specs.Coded.{Coded, code_by, coded×, coded_ℕ}
use Rattle.std.specs.List.{count_by}
use Rattle.dg_pool.specs.declared.refusal.PutRefusal.{PutRefusal}
use Rattle.dg_pool.specs.declared.refusal.PutRefusal.TheVariants as refusal

-- how many jobs were put and taken that meet the test; how often a put was refused since the pool was closed, how often a take stopped since it was
-- closed and empty, and how often it was closed. A pass is marked refused, stopped or closed where that count isn't 0
pub record Tally : Type 0 where
  pub puts : ℕ
  pub takes : ℕ
  pub refusals : ℕ
  pub stops : ℕ
  pub closes : ℕ

abbrev pub tally_code : Coded Tally
tally_code = code_by (ℕ × (ℕ × (ℕ × (ℕ × ℕ)))) (coded× coded_ℕ (coded× coded_ℕ (coded× coded_ℕ (coded× coded_ℕ coded_ℕ))))
    (λ t. (t.puts, (t.takes, (t.refusals, (t.stops, t.closes)))))
    (λ p. record { puts = p.0; takes = p.1.0; refusals = p.1.1.0; stops = p.1.1.1.0; closes = p.1.1.1.1 }) (λ _. refl)

-- nothing was done yet
abbrev pub no_acts : Tally
no_acts = record { puts = 0; takes = 0; refusals = 0; stops = 0; closes = 0 }

abbrev pub with_puts : ℕ → Tally → Tally
with_puts n t = record t { puts = t.puts + n }

abbrev pub with_takes : ℕ → Tally → Tally
with_takes n t = record t { takes = t.takes + n }

abbrev pub with_refusal : Tally → Tally
with_refusal t = record t { refusals = t.refusals + 1 }

abbrev pub with_stop : Tally → Tally
with_stop t = record t { stops = t.stops + 1 }

abbrev pub with_close : Tally → Tally
with_close t = record t { closes = t.closes + 1 }

abbrev pub one_if : Bool → ℕ
one_if b = if b then 1 else 0

-- a job that is put counts where it meets the test (b says so); a refused one comes back
abbrev pub PutTells : {J : Type 0} → J → Bool → Tally → Tally → Result (Unit {0}) (PutRefusal J) → Type 0
PutTells j b t u (Ok _) = u ≡ with_puts (one_if b) t
PutTells j b t u (Err (refusal.Closed k)) = (k ≡ j) × (u ≡ with_refusal t)
PutTells j b t u (Err (refusal.NoMemory k)) = (k ≡ j) × (u ≡ t)

-- a job that is taken counts where it meets the test
abbrev pub TakeTells : {J : Type 0} → (J → Bool) → Tally → Tally → Option J → Type 0
TakeTells meets t u (Some j) = u ≡ with_takes (one_if (meets j)) t
TakeTells meets t u None = u ≡ with_stop t

abbrev pub plus : Tally → Tally → Tally
plus t u = record { puts = t.puts + u.puts; takes = t.takes + u.takes; refusals = t.refusals + u.refusals; stops = t.stops + u.stops; closes = t.closes + u.closes }

-- several passes together
abbrev pub sum_of : List Tally → Tally
sum_of [] = no_acts
sum_of (t ∷ ts) = plus t (sum_of ts)

-- what all passes of a pool say together, t, of the jobs that are left. Of those that meet the test as many were put as were taken or are left; a put was
-- refused and a take stopped only where the pool was closed; a take stopped only where no job is left
pub record AddsUp {J : Type 0} (meets : J → Bool) (t : Tally) (left : List J) : Type 0 where
  pub counted : t.puts ≡ t.takes + count_by meets left
  pub refused : 0 < t.refusals → 0 < t.closes
  pub stopped : 0 < t.stops → 0 < t.closes
  pub emptied : 0 < t.stops → left ≡ []

-- shares of the ledgers: how many parts, and what was done on them
pub record Portion : Type 0 where
  pub parts : ℕ
  pub tally : Tally

abbrev pub portion_code : Coded Portion
portion_code = code_by (ℕ × Tally) (coded× coded_ℕ tally_code) (λ p. (p.parts, p.tally)) (λ p. record { parts = p.0; tally = p.1 }) (λ _. refl)

abbrev pub portion : ℕ → Tally → Portion
portion parts tally = record { parts = parts; tally = tally }
