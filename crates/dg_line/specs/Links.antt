-- What a link says of two revisions, and what contracts see of it.
use Rattle.std.specs.Prelude.{◌≡◌, ◌+◌, ◌<◌, List, true, false, refl}
use Rattle.std.specs.Coded.{Coded, code_by, coded×, coded_list}
use Rattle.dg_base.specs.declared.ids.Endpoint.{Endpoint}
use Rattle.dg_base.specs.contracts.ids.Endpoint as end_type
use Rattle.dg_base.specs.declared.limits.TheConstants.{REVISIONS}
use Rattle.dg_base.specs.Order.{is_end_among}
use Rattle.dg_base.specs.Tables.{Tables}
use Rattle.dg_touch.specs.Laws.{ValuesAgreeOutside}
use Rattle.dg_line.specs.Revisions.{Seen, counter_at}
use Rattle.dg_line.specs.Tickets.{Pin, pin_code}

-- the second revision is the next one. Outside of what is dirty rules, values and counters are the same;
-- the counter of what is dirty is one higher
pub record IsLink (t : Tables) (from to : Seen) (ds : List Endpoint) : Type 0 where
  pub number : to.number ≡ from.number + 1
  pub below : to.number < REVISIONS
  pub agree : ValuesAgreeOutside t from.graph to.graph ds
  pub same : (e : Endpoint) → is_end_among ds e ≡ false → counter_at to e ≡ counter_at from e
  pub raised : (e : Endpoint) → is_end_among ds e ≡ true → counter_at to e ≡ counter_at from e + 1

pub record Linked (T M : Type 0) : Type 0 where
  pub from : Pin T M
  pub to : Pin T M
  pub dirty : List Endpoint

abbrev pub linked_code : {T M : Type 0} → Coded T → Coded M → Coded (Linked T M)
linked_code {T} {M} revision mark =
    code_by (Pin T M × (Pin T M × List Endpoint)) (coded× (pin_code revision mark) (coded× (pin_code revision mark) (coded_list end_type.the_row.coded)))
    (λ k. (k.from, (k.to, k.dirty))) (λ q. record { from = q.0; to = q.1.0; dirty = q.1.1 }) (λ _. refl)
