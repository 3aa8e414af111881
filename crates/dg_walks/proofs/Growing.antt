-- A walk lists more after what was listed.
use Rattle.std.proofs.Common.{◌≡◌, ℕ, zero, suc, Bool, true, false, cond, List, [], ◌∷◌, ◌++◌, fold, refl, sym, ap, ◌∙◌, append_assoc, append-nil}
use Rattle.dg_base.specs.declared.ids.Endpoint.{Endpoint}
use Rattle.dg_base.specs.Order.{is_end_among}
use Rattle.dg_base.specs.Evaluation.{Evaluated, with_hit, with_end, was_met, evaluated_within}
use Rattle.dg_walks.proofs.Unwinding.{Open, unwound}

-- these begin with those
abbrev pub Begins : {X : Type 0} → List X → List X → Type 0
Begins {X} xs ys = (zs : List X) × (ys ≡ xs ++ zs)

module _ {X : Type 0} where
  pub begins-same : (xs : List X) → Begins xs xs
  begins-same xs = ([], sym (append-nil xs))

  pub begins-then : (xs ys zs : List X) → Begins xs ys → Begins ys zs → Begins xs zs
  begins-then xs ys zs a b = (a.0 ++ b.0, b.1 ∙ ap (λ (l : List X). l ++ b.0) a.1 ∙ append_assoc xs a.0 b.0)

module _ (follow : Endpoint → List Endpoint) (known : List Endpoint) where
  with_end-begins : (xs : List Endpoint) (w : Evaluated) (e : Endpoint) → Begins xs w.listed → Begins xs (with_end w e).listed
  with_end-begins xs w e b = begins-then xs w.listed (w.listed ++ e ∷ []) b (e ∷ [], refl)

  with_hit-begins : (w : Evaluated) (e : Endpoint) → Begins w.listed (with_hit w e).listed
  with_hit-begins w e = by_case (is_end_among w.hits e)
    where
      by_case : (b : Bool) → Begins w.listed (cond b w (record { listed = w.listed; hits = w.hits ++ e ∷ [] })).listed
      by_case true = begins-same w.listed
      by_case false = begins-same w.listed

  fold-begins : (f : Evaluated → Endpoint → Evaluated) → ((w : Evaluated) (e : Endpoint) → Begins w.listed (f w e).listed) → (es : List Endpoint) (w : Evaluated) → Begins w.listed (fold f w es).listed
  fold-begins f one [] w = begins-same w.listed
  fold-begins f one (e ∷ es) w = begins-then w.listed (f w e).listed (fold f (f w e) es).listed (one w e) (fold-begins f one es (f w e))

  pub evaluated-begins : (k : ℕ) (way : List Endpoint) (w : Evaluated) (e : Endpoint) → Begins w.listed (evaluated_within k follow known way w e).listed
  evaluated-begins zero way w e = begins-same w.listed
  evaluated-begins (suc k) way w e =
      by_case (was_met way w e) (is_end_among known e) (fold-begins (evaluated_within k follow known (way ++ e ∷ [])) (evaluated-begins k (way ++ e ∷ [])) (follow e) w)
    where
      by_case : (b c : Bool) → Begins w.listed (fold (evaluated_within k follow known (way ++ e ∷ [])) w (follow e)).listed →
          Begins w.listed (cond b w (cond c (with_hit w e) (with_end (fold (evaluated_within k follow known (way ++ e ∷ [])) w (follow e)) e))).listed
      by_case true c r = begins-same w.listed
      by_case false true r = with_hit-begins w e
      by_case false false r = with_end-begins w.listed (fold (evaluated_within k follow known (way ++ e ∷ [])) w (follow e)) e r

  -- also while endpoints are open
  pub unwound-begins : (fs : List Open) (k : ℕ) (way : List Endpoint) (w : Evaluated) → Begins w.listed (unwound follow known fs k way w).listed
  unwound-begins [] k way w = begins-same w.listed
  unwound-begins (f ∷ fs) zero way w = begins-same w.listed
  unwound-begins (f ∷ fs) (suc k) way w =
      let above = unwound follow known fs k (way ++ f.at ∷ []) w in
      with_end-begins w.listed (fold (evaluated_within k follow known (way ++ f.at ∷ [])) above f.rest) f.at (
      begins-then w.listed above.listed (fold (evaluated_within k follow known (way ++ f.at ∷ [])) above f.rest).listed (unwound-begins fs k (way ++ f.at ∷ []) w)
      (fold-begins (evaluated_within k follow known (way ++ f.at ∷ [])) (evaluated-begins k (way ++ f.at ∷ [])) f.rest above))
