-- What contracts see of a context: its ticket, the entries of its snapshot, what was finished and hit so far,
-- and the productions that were made.
use Rattle.std.specs.Prelude.{◌≡◌, ℕ, List, [], refl}
use Rattle.std.specs.Coded.{Coded, code_by, coded×, coded_list, coded_ℕ}
use Rattle.dg_base.specs.declared.ids.Endpoint.{Endpoint}
use Rattle.dg_base.specs.contracts.ids.Endpoint as end_type
use Rattle.dg_base.specs.Evaluation.{Evaluated, evaluated, productions}
use Rattle.dg_base.specs.Tables.{Tables}
use Rattle.dg_line.specs.Revisions.{Seen}
use Rattle.dg_line.specs.Tickets.{Pin, pin_code}
use Rattle.dg_cache.specs.declared.entry.Entry.{Entry}
use Rattle.dg_cache.specs.contracts.entry.Entry as entry_type
use Rattle.dg_offer.specs.Offers.{Offered}
use Rattle.dg_cache.specs.Entries.{ends_of}
use Rattle.dg_eval.specs.Results.{so_far, newly_listed, cached_of}

pub record Evaluating (T M : Type 0) : Type 0 where
  pub ticket : Pin T M
  pub known : List Entry
  pub results : List Entry
  pub hits : List Endpoint
  pub made : ℕ

-- a context that has evaluated nothing
abbrev pub opened_at : {T M : Type 0} → Pin T M → List Entry → Evaluating T M
opened_at p known = record { ticket = p; known = known; results = []; hits = []; made = 0 }

-- its walk as far as it has come
abbrev pub walked : {T M : Type 0} → Evaluating T M → Evaluated
walked c = so_far c.results c.hits

-- its walk once an endpoint more is evaluated, and the productions that this takes
abbrev pub walked_on : {M : Type 0} → Tables → Evaluating Seen M → Endpoint → Evaluated
walked_on t c e = evaluated t c.ticket.revision.graph (ends_of c.known) (walked c) e

abbrev pub productions_due : {M : Type 0} → Tables → Evaluating Seen M → Endpoint → ℕ
productions_due t c e = productions t c.ticket.revision.graph (newly_listed t c.ticket.revision.graph (ends_of c.known) (walked c) e)

abbrev entries_code : Coded (List Entry)
entries_code = coded_list entry_type.the_row.coded

abbrev ends_code : Coded (List Endpoint)
ends_code = coded_list end_type.the_row.coded

abbrev pub evaluating_code : {T M : Type 0} → Coded T → Coded M → Coded (Evaluating T M)
evaluating_code {T} {M} revision mark =
    code_by (Pin T M × (List Entry × (List Entry × (List Endpoint × ℕ))))
    (coded× (pin_code revision mark) (coded× entries_code (coded× entries_code (coded× ends_code coded_ℕ))))
    (λ c. (c.ticket, (c.known, (c.results, (c.hits, c.made))))) (λ p. record { ticket = p.0; known = p.1.0; results = p.1.1.0; hits = p.1.1.1.0; made = p.1.1.1.1 }) (λ _. refl)

-- what a context offers: the cached outputs that it finished, in that order, and its hits
abbrev pub offered : {M : Type 0} → Tables → Evaluating Seen M → ℕ → Endpoint → Offered Seen M
offered t c ask e = record { ask = ask; ticket = c.ticket; endpoint = e; entries = cached_of t c.ticket.revision.graph c.results; hits = c.hits }
