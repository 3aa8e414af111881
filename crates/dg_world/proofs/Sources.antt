-- Where what an evaluation found known comes from: a record more takes nothing away.
use Rattle.std.proofs.Common.{◌≡◌, ◌⊎◌, List, [], ◌∷◌, ◌++◌, refl, sym, ap, ◌∙◌, subst, inl, inr}
use Rattle.dg_base.specs.declared.ids.Endpoint.{Endpoint}
use Rattle.dg_line.specs.Revisions.{Seen}
use Rattle.dg_offer.specs.Offers.{Offered}
use Rattle.dg_desk.specs.declared.event.What.TheVariants as what
use Rattle.dg_desk.specs.declared.event.Published.{Published}
use Rattle.dg_desk.specs.Machine.{Event}
use Rattle.dg_desk.proofs.Coherence.{published-later}
use Rattle.dg_world.specs.Laws.{IsSourced, HasSources, AreSourced}

-- the last of a list is an element of it, or the element stands before
split-last : {X : Type 0} (xs : List X) (x : X) (before : List X) (y : X) (later : List X) → xs ++ x ∷ [] ≡ before ++ y ∷ later →
    ((before ≡ xs) × (y ≡ x)) ⊎ ((l : List X) × (xs ≡ before ++ y ∷ l))
split-last [] x [] y later e = inl (refl, cc)
split-last [] x (b ∷ []) y later e = absurd cc
split-last [] x (b ∷ c ∷ bs) y later e = absurd cc
split-last (z ∷ zs) x [] y later e = inr (zs, cc)
split-last (z ∷ zs) x (b ∷ bs) y later e =
    let same : z ≡ b = cc in
    let rest : zs ++ x ∷ [] ≡ bs ++ y ∷ later = cc in
    elim (split-last zs x bs y later rest) [
      | inl last ↦ inl (rw (same, last.0) refl, last.1)
      | inr more ↦ inr (more.0, rw (same, more.1) refl)
    ]

module _ {A B : Type 0} (see : A → Seen) where
  pub sourced-later : (now : Seen) (hs : List (Event A B)) (h : Event A B) (e : Endpoint) → IsSourced see now hs e → IsSourced see now (hs ++ h ∷ []) e
  sourced-later now hs h e s = record { entry = s.entry; at = s.at; published = published-later see h s.entry s.published }

  pub sources-later : (hs : List (Event A B)) (h : Event A B) (o : Offered A B) → HasSources see hs o → HasSources see (hs ++ h ∷ []) o
  sources-later hs h o all e c = sourced-later (see o.ticket.revision) hs h e (all e c)

  pub sourced-push : (hs : List (Event A B)) (h : Event A B) → AreSourced see hs → ((o : Offered A B) (a : Published) → h.what ≡ what.Publish o a → HasSources see hs o) →
      AreSourced see (hs ++ h ∷ [])
  sourced-push hs h old new before later e o a is publish =
      elim (split-last hs h before e later is) [
        | inl last ↦ subst (λ (z : List (Event A B)). HasSources see z o) (sym last.0) (new o a (ap (λ (z : Event A B). z.what) (sym last.1) ∙ publish))
        | inr more ↦ old before more.0 e o a more.1 publish
      ]
