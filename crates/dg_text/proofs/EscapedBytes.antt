-- What holds of each way in which a byte is written between quotes.
use Rattle.std.proofs.Common.{◌≡◌, ℕ, ◌<◌, true, false, List, [], ◌∷◌, sym, subst, arith}
use Rattle.std.proofs.lemmas.Bool.{eqb-true, cond_both}
use Rattle.std.specs.Prelude.{◌==◌, ◌||◌, cond, nat_lt}
use Rattle.dg_text.specs.Quoted.{octal_text, escaped}

low_byte : (b : ℕ) → (nat_lt b 32 || b == 127) ≡ true → b < 128
low_byte b e = grind (arith, e)

-- what is left of a byte's text behind each test
abbrev rest_low : ℕ → List ℕ
rest_low b = cond (nat_lt b 32 || b == 127) (octal_text b) (b ∷ [])

abbrev rest_9 : ℕ → List ℕ
rest_9 b = cond (b == 9) (92 ∷ 116 ∷ []) (rest_low b)

abbrev rest_13 : ℕ → List ℕ
rest_13 b = cond (b == 13) (92 ∷ 114 ∷ []) (rest_9 b)

abbrev rest_10 : ℕ → List ℕ
rest_10 b = cond (b == 10) (92 ∷ 110 ∷ []) (rest_13 b)

abbrev rest_92 : ℕ → List ℕ
rest_92 b = cond (b == 92) (92 ∷ 92 ∷ []) (rest_10 b)

module _ (P : ℕ → List ℕ → Type 0) where
  moved : (text : List ℕ) (m b : ℕ) → (b == m) ≡ true → P m text → P b text
  moved text m b e h = let Q : ℕ → Type 0 = λ n. P n text in subst Q (sym (eqb-true b m e)) h

  -- what holds of the five marks, of octal digits and of a byte that stands for itself holds of every byte
  pub each_way : P 34 (92 ∷ 34 ∷ []) → P 92 (92 ∷ 92 ∷ []) → P 10 (92 ∷ 110 ∷ []) → P 13 (92 ∷ 114 ∷ []) → P 9 (92 ∷ 116 ∷ []) →
      ((b : ℕ) → b < 128 → P b (octal_text b)) →
      ((b : ℕ) → (b == 34) ≡ false → (b == 92) ≡ false → (b == 10) ≡ false → P b (b ∷ [])) →
      (b : ℕ) → P b (escaped b)
  unfolding escaped
  each_way as_34 as_92 as_10 as_13 as_9 as_octal as_itself b =
      let Q : List ℕ → Type 0 = λ text. P b text in
      cond_both (b == 34) (92 ∷ 34 ∷ []) (rest_92 b) Q (λ e. moved (92 ∷ 34 ∷ []) 34 b e as_34) (λ no_34.
      cond_both (b == 92) (92 ∷ 92 ∷ []) (rest_10 b) Q (λ e. moved (92 ∷ 92 ∷ []) 92 b e as_92) (λ no_92.
      cond_both (b == 10) (92 ∷ 110 ∷ []) (rest_13 b) Q (λ e. moved (92 ∷ 110 ∷ []) 10 b e as_10) (λ no_10.
      cond_both (b == 13) (92 ∷ 114 ∷ []) (rest_9 b) Q (λ e. moved (92 ∷ 114 ∷ []) 13 b e as_13) (λ no_13.
      cond_both (b == 9) (92 ∷ 116 ∷ []) (rest_low b) Q (λ e. moved (92 ∷ 116 ∷ []) 9 b e as_9) (λ no_9.
      cond_both (nat_lt b 32 || b == 127) (octal_text b) (b ∷ []) Q (λ e. as_octal b (low_byte b e)) (λ _. as_itself b no_34 no_92 no_10))))))
