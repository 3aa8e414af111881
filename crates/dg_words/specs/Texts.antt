-- What the words behind a task's give.
use Rattle.std.specs.Prelude.{List, ℕ, Bool, false, Option, Some, None, option_map, Result, Ok, bytes_eq, codes}
use Rattle.dg_words.specs.declared.task.Usage.{Usage}
use Rattle.dg_words.specs.declared.texts.Texts.{Texts}
use Rattle.dg_words.specs.Paths.{usage}
use Rattle.dg_words.specs.Grammar.{Form, Named, named_in, text_of}

-- the texts at the first and the second place, those of the options, and whether the flag stands there
pub record Given : Type 0 where
  pub first : Option (List ℕ)
  pub second : Option (List ℕ)
  pub workers : Option (List ℕ)
  pub cache : Option (List ℕ)
  pub stats : Bool

abbrev pub seen : Texts → Given
seen t = record {
  first = option_map (λ s. s.now) t.first;
  second = option_map (λ s. s.now) t.second;
  workers = option_map (λ s. s.now) t.workers;
  cache = option_map (λ s. s.now) t.cache;
  stats = t.stats;
}

-- a flag's text is `true` where it stands there
abbrev pub is_flagged : Option (List ℕ) → Bool
is_flagged None = false
is_flagged (Some text) = bytes_eq text (codes "true")

abbrev pub given_of : Named → Given
given_of named = record {
  first = text_of (codes "first") named;
  second = text_of (codes "second") named;
  workers = text_of (codes "workers") named;
  cache = text_of (codes "cache") named;
  stats = is_flagged (text_of (codes "stats") named);
}

abbrev pub given_or_usage : Option Named → Result Given Usage
given_or_usage None = usage
given_or_usage (Some named) = Ok (given_of named)

-- what words of a form give; any others are refused
abbrev pub given_by : Form → List (List ℕ) → Result Given Usage
given_by form words = given_or_usage (named_in form words)
