-- What an evaluation offers, and when an offer is right.
use Rattle.std.specs.Prelude.{◌≡◌, ℕ, List, refl}
use Rattle.std.specs.Coded.{Coded, code_by, coded×, coded_ℕ, coded_list}
use Rattle.std.specs.List.{Contains}
use Rattle.dg_base.specs.declared.ids.Endpoint.{Endpoint}
use Rattle.dg_base.specs.contracts.ids.Endpoint as end_type
use Rattle.dg_base.specs.Tables.{Tables}
use Rattle.dg_base.specs.Graph.{Graph}
use Rattle.dg_base.specs.Value.{value_at}
use Rattle.dg_base.specs.Evaluation.{cached_outputs, evaluated, nothing_evaluated}
use Rattle.dg_cache.specs.declared.entry.Entry.{Entry}
use Rattle.dg_cache.specs.contracts.entry.Entry as entry_type
use Rattle.dg_cache.specs.Entries.{ends_of}
use Rattle.dg_line.specs.Tickets.{Pin, pin_code}

-- each entry is the value of its endpoint
abbrev pub AreValues : Tables → Graph → List Entry → Type 0
AreValues t g es = (x : Entry) → Contains es x → x.value ≡ value_at t g x.at

-- the entries are the cached outputs that the evaluation of an endpoint lists where just these hits are known,
-- in order and with their values, and it meets each of these hits, in order
pub record IsOffer (t : Tables) (g : Graph) (e : Endpoint) (xs : List Entry) (hs : List Endpoint) : Type 0 where
  pub right : AreValues t g xs
  pub entries : ends_of xs ≡ cached_outputs t g (evaluated t g hs nothing_evaluated e).listed
  pub hits : hs ≡ (evaluated t g hs nothing_evaluated e).hits

-- what contracts see of an offer: the number of who asked, the revision, the endpoint that was asked for, the
-- entries, and the known endpoints that were used
pub record Offered (T M : Type 0) : Type 0 where
  pub ask : ℕ
  pub ticket : Pin T M
  pub endpoint : Endpoint
  pub entries : List Entry
  pub hits : List Endpoint

abbrev pub offered_code : {T M : Type 0} → Coded T → Coded M → Coded (Offered T M)
offered_code {T} {M} revision mark =
    code_by (ℕ × (Pin T M × (Endpoint × (List Entry × List Endpoint))))
    (coded× coded_ℕ (coded× (pin_code revision mark) (coded× end_type.the_row.coded (coded× (coded_list entry_type.the_row.coded) (coded_list end_type.the_row.coded)))))
    (λ o. (o.ask, (o.ticket, (o.endpoint, (o.entries, o.hits)))))
    (λ q. record { ask = q.0; ticket = q.1.0; endpoint = q.1.1.0; entries = q.1.1.1.0; hits = q.1.1.1.1 }) (λ _. refl)
