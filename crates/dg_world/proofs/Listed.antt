-- A listed revision with the number of the desk's own is that one.
use Rattle.std.proofs.Common.{◌≡◌, ◌<◌, List, [], ◌∷◌, length, Contains, AllPairs, refl, sym, ap, ◌∙◌, subst, inl, inr, arith}
use Rattle.std.proofs.lemmas.List.{length-append, get_or_append_left, get_or_push}
use Rattle.std.proofs.lemmas.List.Elements.{Contains-push_cases}
use Rattle.dg_base.specs.Tables.{Tables}
use Rattle.dg_line.specs.Revisions.{Seen}
use Rattle.dg_line.specs.Tickets.{Pin}
use Rattle.dg_desk.specs.Machine.{Event, State}
use Rattle.dg_desk.specs.Coherent.{IsCoherent}

pub now-by-number : {A B : Type 0} (see : A → Seen) (t : Tables) (s : State A B) (hs : List (Event A B)) → IsCoherent see t s hs → (p : Pin A B) → Contains s.list p →
    (see p.revision).number ≡ (see s.now.revision).number → p ≡ s.now
now-by-number {A} {B} see t s hs o p c same =
    let rise = subst (AllPairs (λ (x y : Pin A B). (see x.revision).number < (see y.revision).number)) o.last o.rise in
    elim (Contains-push_cases o.before s.now p (subst (λ (ps : List (Pin A B)). Contains ps p) o.last c)) [
      | inl early ↦
          let long = length-append o.before (s.now ∷ []) in
          let less = rise early.0 (length o.before) p early.1 (omega (arith, long)) in
          let first = ap (λ (z : Pin A B). (see z.revision).number) (get_or_append_left o.before (s.now ∷ []) p early.0 early.1 ∙ early.2) in
          let last = ap (λ (z : Pin A B). (see z.revision).number) (get_or_push o.before s.now p (length o.before) refl) in
          absurd (omega (arith, less, first, last, same))
      | inr is ↦ sym is
    ]
