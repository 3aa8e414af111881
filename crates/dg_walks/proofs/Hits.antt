-- A walk of which only the hits are known.
use Rattle.std.proofs.Common.{◌≡◌, ℕ, zero, suc, Bool, true, false, cond, ◌||◌, List, [], ◌∷◌, ◌++◌, fold, refl, sym, ap, ◌∙◌, true≢false}
use Rattle.std.proofs.lemmas.Bool.{or_left, or_right, cases_Bool, false_from_ne_true}
use Rattle.dg_base.specs.declared.ids.Endpoint.{Endpoint}
use Rattle.dg_base.specs.Same.{same_end}
use Rattle.dg_base.specs.Order.{is_end_among}
use Rattle.dg_laws.proofs.Among.{among-push}
use Rattle.dg_laws.proofs.Ends.{same_end-is, same_end-itself, ends_tell}
use Rattle.dg_base.specs.Evaluation.{Evaluated, with_hit, with_end, was_met, evaluated_within, evaluated, nothing_evaluated}
use Rattle.dg_base.specs.Rule.{dependencies}
use Rattle.dg_base.specs.Value.{enough_fuel}
use Rattle.dg_base.specs.Tables.{Tables}
use Rattle.dg_base.specs.Graph.{Graph}
use Rattle.dg_walks.specs.Laws.{HitsAreEnough}

-- each of these stands among those
abbrev pub AreAmong : List Endpoint → List Endpoint → Type 0
AreAmong xs ys = (x : Endpoint) → is_end_among xs x ≡ true → is_end_among ys x ≡ true

module _ (follow : Endpoint → List Endpoint) (known : List Endpoint) where
  -- ---- hits stay

  hit_stays : (w : Evaluated) (e : Endpoint) → AreAmong w.hits (with_hit w e).hits
  hit_stays w e x h = by_case (is_end_among w.hits e)
    where
      by_case : (b : Bool) → is_end_among (cond b w (record { listed = w.listed; hits = w.hits ++ e ∷ [] })).hits x ≡ true
      by_case true = h
      by_case false = among-push ends_tell w.hits e x ∙ or_left (is_end_among w.hits x) (same_end x e) h

  fold_stays : (f : Evaluated → Endpoint → Evaluated) → ((w : Evaluated) (e : Endpoint) → AreAmong w.hits (f w e).hits) → (es : List Endpoint) (w : Evaluated) → AreAmong w.hits (fold f w es).hits
  fold_stays f one [] w x h = h
  fold_stays f one (e ∷ es) w x h = fold_stays f one es (f w e) x (one w e x h)

  hits_stay : (k : ℕ) (way : List Endpoint) (w : Evaluated) (e : Endpoint) → AreAmong w.hits (evaluated_within k follow known way w e).hits
  hits_stay zero way w e x h = h
  hits_stay (suc k) way w e x h =
      by_case (was_met way w e) (is_end_among known e) (fold_stays (evaluated_within k follow known (way ++ e ∷ [])) (hits_stay k (way ++ e ∷ [])) (follow e) w x h)
    where
      by_case : (b c : Bool) → is_end_among (fold (evaluated_within k follow known (way ++ e ∷ [])) w (follow e)).hits x ≡ true →
          is_end_among (cond b w (cond c (with_hit w e) (with_end (fold (evaluated_within k follow known (way ++ e ∷ [])) w (follow e)) e))).hits x ≡ true
      by_case true c r = h
      by_case false true r = hit_stays w e x h
      by_case false false r = r

  -- ---- each hit is known

  hit_known : (w : Evaluated) (e : Endpoint) → is_end_among known e ≡ true → AreAmong w.hits known → AreAmong (with_hit w e).hits known
  hit_known w e is all x = by_case (is_end_among w.hits e)
    where
      by_same : (b c : Bool) → is_end_among w.hits x ≡ b → same_end x e ≡ c → (b || c) ≡ true → is_end_among known x ≡ true
      by_same true c hb hc h = all x hb
      by_same false true hb hc h = ap (is_end_among known) (same_end-is x e hc) ∙ is
      by_same false false hb hc h = absurd (true≢false (sym h))

      by_case : (b : Bool) → is_end_among (cond b w (record { listed = w.listed; hits = w.hits ++ e ∷ [] })).hits x ≡ true → is_end_among known x ≡ true
      by_case true h = all x h
      by_case false h = by_same (is_end_among w.hits x) (same_end x e) refl refl (sym (among-push ends_tell w.hits e x) ∙ h)

  fold_known : (f : Evaluated → Endpoint → Evaluated) → ((w : Evaluated) (e : Endpoint) → AreAmong w.hits known → AreAmong (f w e).hits known) →
      (es : List Endpoint) (w : Evaluated) → AreAmong w.hits known → AreAmong (fold f w es).hits known
  fold_known f one [] w all = all
  fold_known f one (e ∷ es) w all = fold_known f one es (f w e) (one w e all)

  hits_known : (k : ℕ) (way : List Endpoint) (w : Evaluated) (e : Endpoint) → AreAmong w.hits known → AreAmong (evaluated_within k follow known way w e).hits known
  hits_known zero way w e all = all
  hits_known (suc k) way w e all =
      by_case (was_met way w e) (is_end_among known e) refl (fold_known (evaluated_within k follow known (way ++ e ∷ [])) (hits_known k (way ++ e ∷ [])) (follow e) w all)
    where
      by_case : (b c : Bool) → is_end_among known e ≡ c → AreAmong (fold (evaluated_within k follow known (way ++ e ∷ [])) w (follow e)).hits known →
          AreAmong (cond b w (cond c (with_hit w e) (with_end (fold (evaluated_within k follow known (way ++ e ∷ [])) w (follow e)) e))).hits known
      by_case true c is r = all
      by_case false true is r = hit_known w e is all
      by_case false false is r = r

  -- ---- fewer known ones, among them each hit

  module _ (few : List Endpoint) (within : AreAmong few known) where
    there : (w : Evaluated) (e : Endpoint) → is_end_among (with_hit w e).hits e ≡ true
    there w e = by_case (is_end_among w.hits e) refl
      where
        by_case : (b : Bool) → is_end_among w.hits e ≡ b → is_end_among (cond b w (record { listed = w.listed; hits = w.hits ++ e ∷ [] })).hits e ≡ true
        by_case true is = is
        by_case false is = among-push ends_tell w.hits e e ∙ or_right (is_end_among w.hits e) (same_end e e) (same_end-itself e)

    fold_same : (f g : Evaluated → Endpoint → Evaluated) → ((w : Evaluated) (e : Endpoint) → AreAmong w.hits (g w e).hits) →
        ((w : Evaluated) (e : Endpoint) → AreAmong (g w e).hits few → f w e ≡ g w e) →
        (es : List Endpoint) (w : Evaluated) → AreAmong (fold g w es).hits few → fold f w es ≡ fold g w es
    fold_same f g stays one [] w all = refl
    fold_same f g stays one (e ∷ es) w all =
        ap (λ (z : Evaluated). fold f z es) (one w e (λ x h. all x (fold_stays g stays es (g w e) x h)))
        ∙ fold_same f g stays one es (g w e) all

    same_walk : (k : ℕ) (way : List Endpoint) (w : Evaluated) (e : Endpoint) → AreAmong (evaluated_within k follow known way w e).hits few →
        evaluated_within k follow few way w e ≡ evaluated_within k follow known way w e
    same_walk zero way w e all = refl
    same_walk (suc k) way w e all =
        by_case (was_met way w e) (is_end_among known e) refl (is_end_among few e) refl all
        (fold_same (evaluated_within k follow few (way ++ e ∷ [])) (evaluated_within k follow known (way ++ e ∷ [])) (hits_stay k (way ++ e ∷ [])) (same_walk k (way ++ e ∷ [])) (follow e) w)
      where
        by_case : (b c : Bool) → is_end_among known e ≡ c → (d : Bool) → is_end_among few e ≡ d →
            AreAmong (cond b w (cond c (with_hit w e) (with_end (fold (evaluated_within k follow known (way ++ e ∷ [])) w (follow e)) e))).hits few →
            (AreAmong (fold (evaluated_within k follow known (way ++ e ∷ [])) w (follow e)).hits few →
            fold (evaluated_within k follow few (way ++ e ∷ [])) w (follow e) ≡ fold (evaluated_within k follow known (way ++ e ∷ [])) w (follow e)) →
            cond b w (cond d (with_hit w e) (with_end (fold (evaluated_within k follow few (way ++ e ∷ [])) w (follow e)) e))
            ≡ cond b w (cond c (with_hit w e) (with_end (fold (evaluated_within k follow known (way ++ e ∷ [])) w (follow e)) e))
        by_case true c hc d hd all r = refl
        by_case false true hc true hd all r = refl
        by_case false true hc false hd all r = absurd (true≢false (sym (all e (there w e)) ∙ hd))
        by_case false false hc true hd all r = absurd (true≢false (sym (within e hd) ∙ hc))
        by_case false false hc false hd all r = ap (λ (z : Evaluated). with_end z e) (r all)

enough_hits : (k : ℕ) (follow : Endpoint → List Endpoint) (known : List Endpoint) (e : Endpoint) →
    evaluated_within k follow (evaluated_within k follow known [] nothing_evaluated e).hits [] nothing_evaluated e ≡ evaluated_within k follow known [] nothing_evaluated e
enough_hits k follow known e =
    same_walk follow known (evaluated_within k follow known [] nothing_evaluated e).hits
    (hits_known follow known k [] nothing_evaluated e (λ x h. absurd (true≢false (sym h)))) k [] nothing_evaluated e (λ x h. h)

pub hits_enough : (t : Tables) → HitsAreEnough t
hits_enough t g known e = enough_hits (enough_fuel t g) (dependencies t g) known e
