-- The revision that follows another is linked to it.
use Rattle.std.proofs.Common.{◌≡◌, ℕ, ◌+◌, ◌<◌, cond, List, refl, sym, ap, ◌∙◌, subst}
use Rattle.dg_base.specs.declared.ids.Endpoint.{Endpoint}
use Rattle.dg_base.specs.declared.limits.TheConstants.{REVISIONS}
use Rattle.dg_base.specs.Tables.{Tables, AreTables}
use Rattle.dg_base.specs.Graph.{Graph}
use Rattle.dg_base.specs.Sound.{IsSound}
use Rattle.dg_base.specs.Dirty.{dirty}
use Rattle.dg_touch.specs.Laws.{RulesAgreeOutside}
use Rattle.dg_touch.proofs.OutsideDirty.{values-outside}
use Rattle.dg_line.specs.Counts.{count_in}
use Rattle.dg_line.specs.Revisions.{Seen, followed}
use Rattle.dg_line.specs.Links.{IsLink}
use Rattle.dg_line.proofs.Raising.{raised-counts}

-- what is known of a change of the graph from one revision to the next
pub record IsChange (t : Tables) (r : Seen) (g : Graph) (es : List Endpoint) : Type 0 where
  pub before : IsSound t r.graph
  pub sound : IsSound t g
  pub agree : RulesAgreeOutside t r.graph g es
  pub room : r.number + 1 < REVISIONS

pub followed-linked : {t : Tables} → AreTables t → (r : Seen) (g : Graph) (next : ℕ) (es : List Endpoint) → IsChange t r g es →
    IsLink t r (followed t r g next es) (dirty t g es)
followed-linked {t} laws r g next es c = record {
  number = refl;
  below = c.room;
  agree = values-outside laws c.before c.sound es c.agree;
  same = λ e out. raised-counts r.counters (dirty t g es) e ∙ ap (λ b. cond b (count_in r.counters e + 1) (count_in r.counters e)) out;
  raised = λ e in_. raised-counts r.counters (dirty t g es) e ∙ ap (λ b. cond b (count_in r.counters e + 1) (count_in r.counters e)) in_;
}

-- as a mark sees the revisions, which is as they are
pub linked-seen : {t u : Tables} (see : Seen → Seen) → u ≡ t → ((r : Seen) → see r ≡ r) → (from to : Seen) (ds : List Endpoint) → IsLink t from to ds → IsLink u (see from) (see to) ds
linked-seen {t} {u} see tables seen from to ds l =
    subst (λ (v : Tables). IsLink v (see from) (see to) ds) (sym tables)
    (subst (λ (r : Seen). IsLink t r (see to) ds) (sym (seen from))
    (subst (λ (r : Seen). IsLink t from r ds) (sym (seen to)) l))

pub follow-linked : {t u : Tables} → AreTables t → (see : Seen → Seen) → u ≡ t → ((r : Seen) → see r ≡ r) → (r : Seen) (g : Graph) (next : ℕ) (es : List Endpoint) → IsChange t r g es →
    (from to : Seen) (ds : List Endpoint) → from ≡ r → to ≡ followed t r g next es → ds ≡ dirty t g es → IsLink u (see from) (see to) ds
follow-linked {t} {u} laws see tables seen r g next es c from to ds is_from is_to is_dirty =
    linked-seen see tables seen from to ds
    (subst (λ (f : Seen). IsLink t f to ds) (sym is_from)
    (subst (λ (x : Seen). IsLink t r x ds) (sym is_to)
    (subst (λ (d : List Endpoint). IsLink t r (followed t r g next es) d) (sym is_dirty) (followed-linked laws r g next es c))))
