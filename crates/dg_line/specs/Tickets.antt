-- What contracts see of a ticket: the revision that it holds, its index in its line, and the line's mark.
use Rattle.std.specs.Prelude.{ℕ, refl}
use Rattle.std.specs.Coded.{Coded, code_by, coded×, coded_ℕ}

pub record Pin (T M : Type 0) : Type 0 where
  pub revision : T
  pub index : ℕ
  pub mark : M

abbrev pub pin_code : {T M : Type 0} → Coded T → Coded M → Coded (Pin T M)
pin_code {T} {M} revision mark = code_by (T × (ℕ × M)) (coded× revision (coded× coded_ℕ mark)) (λ p. (p.revision, (p.index, p.mark)))
    (λ q. record { revision = q.0; index = q.1.0; mark = q.1.1 }) (λ _. refl)
