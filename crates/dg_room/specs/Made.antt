-- What was made with passes, and what a history has.
use Rattle.std.specs.Prelude.{◌≡◌, ◌≢◌, ◌<◌, ℕ, ◌+◌, List, [], ◌∷◌, Bool, true, false, length, refl, Some, slice_get}
use Rattle.std.specs.Coded.{Coded, code_by, coded×, coded_ℕ}
use Rattle.std.specs.List.{count_by}
use Rattle.dg_desk.specs.declared.event.TheConstants.{PASSES}
use Rattle.dg_desk.specs.declared.event.What.TheVariants as what
use Rattle.dg_desk.specs.Machine.{Act, Event}

-- how many follows, publications and evictions
pub record Made : Type 0 where
  pub follows : ℕ
  pub publications : ℕ
  pub evictions : ℕ

abbrev pub made_code : Coded Made
made_code = code_by (ℕ × (ℕ × ℕ)) (coded× coded_ℕ (coded× coded_ℕ coded_ℕ)) (λ m. (m.follows, (m.publications, m.evictions)))
    (λ p. record { follows = p.0; publications = p.1.0; evictions = p.1.1 }) (λ _. refl)

abbrev pub none_made : Made
none_made = record { follows = 0; publications = 0; evictions = 0 }

abbrev pub with_follow : Made → Made
with_follow m = record m { follows = m.follows + 1 }

abbrev pub with_publication : Made → Made
with_publication m = record m { publications = m.publications + 1 }

abbrev pub with_eviction : Made → Made
with_eviction m = record m { evictions = m.evictions + 1 }

abbrev pub plus : Made → Made → Made
plus m w = record { follows = m.follows + w.follows; publications = m.publications + w.publications; evictions = m.evictions + w.evictions }

-- a pass: its number, and what was made with it
pub record Passed : Type 0 where
  pub number : ℕ
  pub made : Made

abbrev pub passed_code : Coded Passed
passed_code = code_by (ℕ × Made) (coded× coded_ℕ made_code) (λ p. (p.number, p.made)) (λ q. record { number = q.0; made = q.1 }) (λ _. refl)

abbrev pub passed : ℕ → Made → Passed
passed number made = record { number = number; made = made }

-- passes numbered from 0, with which nothing was made
abbrev pub AreFresh : ℕ → List Passed → Type 0
AreFresh count ps = (length ps ≡ count) × ((k : ℕ) (p : Passed) → slice_get ps k ≡ Some p → p ≡ passed k none_made)

-- what was made with several passes
abbrev pub sum_of : List Passed → Made
sum_of [] = none_made
sum_of (p ∷ ps) = plus p.made (sum_of ps)

-- ---- what a history has

abbrev pub is_follow : {A B : Type 0} → Act A B → Bool
is_follow (what.Follow link a) = true
is_follow _ = false

abbrev pub is_publication : {A B : Type 0} → Act A B → Bool
is_publication (what.Publish o a) = true
is_publication _ = false

abbrev pub is_eviction : {A B : Type 0} → Act A B → Bool
is_eviction (what.Evict most a) = true
is_eviction _ = false

abbrev pub made_in : {A B : Type 0} → List (Event A B) → Made
made_in hs = record {
  follows = count_by (λ e. is_follow e.what) hs;
  publications = count_by (λ e. is_publication e.what) hs;
  evictions = count_by (λ e. is_eviction e.what) hs;
}

-- a history has exactly what was made, and no other record
pub record Has {A B : Type 0} (hs : List (Event A B)) (m : Made) : Type 0 where
  pub made : made_in hs ≡ m
  pub only : length hs ≡ m.follows + m.publications + m.evictions

-- ---- shares of a room's ledgers

-- how many parts of the ledger of follows, how many of each other one, and what was made on them
pub record Portion : Type 0 where
  pub follow_parts : ℕ
  pub parts : ℕ
  pub made : Made

abbrev pub portion_code : Coded Portion
portion_code = code_by (ℕ × (ℕ × Made)) (coded× coded_ℕ (coded× coded_ℕ made_code)) (λ p. (p.follow_parts, (p.parts, p.made)))
    (λ q. record { follow_parts = q.0; parts = q.1.0; made = q.1.1 }) (λ _. refl)

abbrev pub portion : ℕ → ℕ → Made → Portion
portion follow_parts parts made = record { follow_parts = follow_parts; parts = parts; made = made }

-- a pass has two parts in all: pass 0 one of the ledger of follows, and one of each other ledger; another one two of each other ledger. Pass 0 alone
-- has followed
pub record IsPass (number : ℕ) (s : Portion) : Type 0 where
  pub below : number < PASSES
  pub parts : s.follow_parts + s.parts ≡ 2
  pub some : 0 < s.parts
  pub first : number ≡ 0 → s.follow_parts ≡ 1
  pub others : number ≢ 0 → s.made.follows ≡ 0
