-- A table of the answers of all endpoints: each fuel's answers follow from the last one's.
use Rattle.std.specs.Prelude.{ℕ, zero, suc, List, [], ◌∷◌, cond, Option, Some, None, position, slice_get}
use Rattle.dg_base.specs.declared.ids.Endpoint.{Endpoint}
use Rattle.dg_base.specs.declared.answer.Answer.{Answer}
use Rattle.dg_base.specs.declared.answer.Answer.TheVariants as answer
use Rattle.dg_base.specs.declared.answer.FaultCode.TheVariants as code
use Rattle.dg_base.specs.Same.{same_end}
use Rattle.dg_base.specs.Tables.{Tables}
use Rattle.dg_base.specs.Graph.{Graph}
use Rattle.dg_base.specs.Rule.{rule_of}
use Rattle.dg_base.specs.Value.{is_cycle, one_fault, answer_by}
use Rattle.dg_reads.specs.declared.values.EndpointRule.{EndpointRule}

abbrev pub known_or : Endpoint → Option Answer → Answer
known_or e None = one_fault e code.NoEndpoint
known_or e (Some a) = a

abbrev pub at_place : List Answer → Option ℕ → Option Answer
at_place as_ None = None
at_place as_ (Some i) = slice_get as_ i

-- the answer that stands in the endpoint's place; what has no place isn't there
abbrev pub known : List Endpoint → List Answer → Endpoint → Answer
known es as_ e = known_or e (at_place as_ (position (same_end e) es))

-- an answer that is no cycle stays, and a cycle is asked for once more
abbrev pub next_answer : Tables → (Endpoint → Answer) → EndpointRule → Answer → Answer
next_answer t value q a = cond (is_cycle a) (answer_by t q.at value q.rule) a

abbrev pub next_answers : Tables → (Endpoint → Answer) → List EndpointRule → List Answer → List Answer
next_answers t value [] as_ = []
next_answers t value (q ∷ qs) [] = []
next_answers t value (q ∷ qs) (a ∷ as_) = next_answer t value q a ∷ next_answers t value qs as_

-- an endpoint with its rule
abbrev pub endpoint_rule : Tables → Graph → Endpoint → EndpointRule
endpoint_rule t g e = record { at = e; rule = rule_of t g e }

-- the answer while all others are cycles
abbrev pub first_answer_of : Tables → EndpointRule → Answer
first_answer_of t q = answer_by t q.at (λ o. answer.Cycle) q.rule

-- so many rounds
abbrev pub answers_after : ℕ → Tables → List Endpoint → List EndpointRule → List Answer → List Answer
answers_after zero t es qs as_ = as_
answers_after (suc k) t es qs as_ = answers_after k t es qs (next_answers t (known es as_) qs as_)
