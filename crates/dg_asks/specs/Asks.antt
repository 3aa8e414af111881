-- What is asked for, and what is answered, as contracts see them.
use Rattle.std.specs.Prelude.{ℕ, refl}
use Rattle.std.specs.Coded.{Coded, code_by, coded×, coded_ℕ}
use Rattle.dg_base.specs.declared.answer.Answer.{Answer}
use Rattle.dg_base.specs.contracts.answer.Answer as answer_type
use Rattle.dg_base.specs.declared.ids.Endpoint.{Endpoint}
use Rattle.dg_base.specs.contracts.ids.Endpoint as end_type
use Rattle.dg_line.specs.Revisions.{Seen, seen_code}
use Rattle.dg_line.specs.Tickets.{Pin, pin_code}
use Rattle.dg_asks.specs.declared.asking.Asking.{Asking}

-- of which endpoint, at which revision
pub record Ask : Type 0 where
  pub revision : Seen
  pub at : Endpoint

abbrev pub ask_code : Coded Ask
ask_code = code_by (Seen × Endpoint) (coded× seen_code end_type.the_row.coded) (λ a. (a.revision, a.at)) (λ p. record { revision = p.0; at = p.1 }) (λ _. refl)

-- what is asked for by the ticket of a revision
abbrev pub asking_ask : {M : Type 0} → Asking M Seen → Ask
asking_ask a = record { revision = a.ticket.revision; at = a.at }

-- an ask that was evaluated: its number, the ticket of its revision, its endpoint and the answer
pub record Answering (T M : Type 0) : Type 0 where
  pub ask : ℕ
  pub ticket : Pin T M
  pub at : Endpoint
  pub answer : Answer

abbrev pub answering_code : {T M : Type 0} → Coded T → Coded M → Coded (Answering T M)
answering_code {T} {M} revision mark =
    code_by (ℕ × (Pin T M × (Endpoint × Answer))) (coded× coded_ℕ (coded× (pin_code revision mark) (coded× end_type.the_row.coded answer_type.the_row.coded)))
    (λ a. (a.ask, (a.ticket, (a.at, a.answer)))) (λ q. record { ask = q.0; ticket = q.1.0; at = q.1.1.0; answer = q.1.1.1 }) (λ _. refl)

-- what was asked by an answer's ticket
abbrev pub answering_ask : {M : Type 0} → Answering Seen M → Ask
answering_ask a = record { revision = a.ticket.revision; at = a.at }
