-- What holds of each listed revision of a desk holds after a record more, where it holds of the revision that the
-- act brings.
use Rattle.std.proofs.Common.{◌≡◌, ◌++◌, ◌∷◌, [], ℕ, List, Bool, true, false, cond, Option, Some, None, Contains, inl, inr, refl, subst, ◌∙◌}
use Rattle.std.proofs.lemmas.List.Elements.{Contains-push_cases}
use Rattle.dg_laws.proofs.Members.{Contains-none}
use Rattle.dg_cache.specs.declared.cache.Evicted.{Evicted}
use Rattle.dg_line.specs.Revisions.{Seen}
use Rattle.dg_line.specs.Links.{Linked}
use Rattle.dg_line.specs.Tickets.{Pin}
use Rattle.dg_offer.specs.Offers.{Offered}
use Rattle.dg_desk.specs.declared.event.What.TheVariants as what
use Rattle.dg_desk.specs.declared.event.Followed.{Followed}
use Rattle.dg_desk.specs.declared.event.Published.{Published}
use Rattle.dg_desk.specs.Machine.{Act}
use Rattle.dg_desk.specs.Desks.{Desked, IsEviction, IsEvictionBy, IsPublication, is_refused, is_step, recorded, state_of}
use Rattle.dg_desk.specs.Places.{is_restart}
use Rattle.dg_desk.proofs.Places.{list-follow, list-other, list-recorded}

module _ {A B : Type 0} (see : A → Seen) (P : Pin A B → Type 0) where
  pushed : (fresh : Bool) (list : List (Pin A B)) (to p : Pin A B) → ((q : Pin A B) → Contains list q → P q) → P to → Contains (cond fresh [] list ++ to ∷ []) p → P p
  pushed fresh list to p each brought h =
      elim (Contains-push_cases (cond fresh [] list) to p h) [
        | inl early ↦ kept fresh early
        | inr is ↦ subst P is brought
      ]
    where
      kept : (b : Bool) → Contains (cond b [] list) p → P p
      kept true none = Contains-none p none
      kept false among = each p among

  pub listed-follow : (d : Desked A B) (link : Linked A B) (a : Followed) → ((p : Pin A B) → Contains (state_of see d).list p → P p) → P link.to →
      (p : Pin A B) → Contains (state_of see (recorded see d (what.Follow link a))).list p → P p
  listed-follow d link a each brought p h =
      pushed (is_restart a) (state_of see d).list link.to p each brought
      (subst (λ (ps : List (Pin A B)). Contains ps p) (list-recorded see d (what.Follow link a) ∙ list-follow see d.capacity (state_of see d) link a) h)

  pub listed-settle : (d : Desked A B) (to : Pin A B) → P to → (p : Pin A B) → Contains (state_of see (recorded see d (what.Settle to))).list p → P p
  listed-settle d to brought p h =
      pushed true [] to p (λ q none. Contains-none q none) brought (subst (λ (ps : List (Pin A B)). Contains ps p) (list-recorded see d (what.Settle to)) h)

  pub listed-other : (d : Desked A B) (w : Act A B) → is_step w ≡ false → ((p : Pin A B) → Contains (state_of see d).list p → P p) →
      (p : Pin A B) → Contains (state_of see (recorded see d w)).list p → P p
  listed-other d w other each p h =
      each p (subst (λ (ps : List (Pin A B)). Contains ps p) (list-recorded see d w ∙ list-other see d.capacity (state_of see d) w other) h)

  pub listed-published : (d new : Desked A B) (o : Offered A B) (a : Published) (place : Option ℕ) → IsPublication see d o a new place → ((p : Pin A B) → Contains (state_of see d).list p → P p) →
      (p : Pin A B) → Contains (state_of see new).list p → P p
  listed-published d new o a None done each p h = each p (subst (λ (z : Desked A B). Contains (state_of see z).list p) done.0 h)
  listed-published d new o a (Some n) done each p h = listed-other d (what.Publish o a) refl each p (subst (λ (z : Desked A B). Contains (state_of see z).list p) done.1 h)

  pub listed-evicted : (d new : Desked A B) (m : ℕ) (a : Evicted) → IsEviction see d m a new → ((p : Pin A B) → Contains (state_of see d).list p → P p) →
      (p : Pin A B) → Contains (state_of see new).list p → P p
  listed-evicted d new m a done each p h = by_test (is_refused a) done
    where
      by_test : (b : Bool) → IsEvictionBy b see d m a new → P p
      by_test true same = each p (subst (λ (z : Desked A B). Contains (state_of see z).list p) same h)
      by_test false more = listed-other d (what.Evict m a) refl each p (subst (λ (z : Desked A B). Contains (state_of see z).list p) more.0 h)

  pub listed-opened : (d : Desked A B) (to : Pin A B) (c : ℕ) → d ≡ record { opened = to; capacity = c; entries = []; history = []; pass = 0 } → P to → (p : Pin A B) → Contains (state_of see d).list p → P p
  listed-opened d to c is brought p h =
      pushed true [] to p (λ q none. Contains-none q none) brought (subst (λ (z : Desked A B). Contains (state_of see z).list p) is h)
