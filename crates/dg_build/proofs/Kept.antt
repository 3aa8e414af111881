-- What is kept of the members of a list, with one member more.
use Rattle.std.proofs.Common.{◌≡◌, ◌∙◌, ℕ, ◌+◌, ◌<◌, List, [], ◌∷◌, ◌++◌, Option, Some, None, filter_map, flat_map, take, length, get_or, refl, sym, ap, append_assoc, arith}
use Rattle.std.specs.Option.{option_to_list}
use Rattle.std.proofs.lemmas.Grind.{flat_map-append}
use Rattle.std.proofs.lemmas.List.{take_more, flat_map_more}
use Rattle.std.proofs.lemmas.List.Elements.{filter_map-append}

module _ {X Y : Type 0} (h : X → Option Y) where
  of_one : (x : X) (o : Option Y) → h x ≡ o → filter_map h (x ∷ []) ≡ option_to_list o
  of_one x None e = grind (arith, e)
  of_one x (Some y) e = grind (arith, e)

  kept_more : (xs : List X) (i : ℕ) (x : X) → i < length xs → x ≡ get_or xs i x → filter_map h (take (i + 1) xs) ≡ filter_map h (take i xs) ++ option_to_list (h x)
  kept_more xs i x lt at =
      ap (filter_map h) (take_more xs i x lt)
      ∙ filter_map-append h (take i xs) (get_or xs i x ∷ [])
      ∙ ap (λ y. filter_map h (take i xs) ++ filter_map h (y ∷ [])) (sym at)
      ∙ ap (λ l. filter_map h (take i xs) ++ l) (of_one x (h x) refl)

  -- what is kept, behind what was there
  pub push_kept : (xs : List X) (i : ℕ) (x : X) (before old new : List Y) → i < length xs → x ≡ get_or xs i x → new ≡ old ++ option_to_list (h x) →
      old ≡ before ++ filter_map h (take i xs) → new ≡ before ++ filter_map h (take (i + 1) xs)
  push_kept xs i x before old new lt at is so_far =
      is ∙ ap (λ l. l ++ option_to_list (h x)) so_far
      ∙ append_assoc before (filter_map h (take i xs)) (option_to_list (h x))
      ∙ ap (λ l. before ++ l) (sym (kept_more xs i x lt at))

  -- what each of them gives
  pub push_each : {Z : Type 0} (f : Y → List Z) (xs : List X) (i : ℕ) (x : X) (before old new : List Z) → i < length xs → x ≡ get_or xs i x →
      new ≡ old ++ flat_map f (option_to_list (h x)) → old ≡ before ++ flat_map f (filter_map h (take i xs)) →
      new ≡ before ++ flat_map f (filter_map h (take (i + 1) xs))
  push_each f xs i x before old new lt at is so_far =
      is ∙ ap (λ l. l ++ flat_map f (option_to_list (h x))) so_far
      ∙ append_assoc before (flat_map f (filter_map h (take i xs))) (flat_map f (option_to_list (h x)))
      ∙ ap (λ l. before ++ l) (sym (ap (flat_map f) (kept_more xs i x lt at) ∙ flat_map-append f (filter_map h (take i xs)) (option_to_list (h x))))

-- what each member of a list gives, behind what was there, with one member more
pub push_flat : {X Z : Type 0} (f : X → List Z) (xs : List X) (i : ℕ) (x : X) (before old new : List Z) → i < length xs → x ≡ get_or xs i x →
    new ≡ old ++ f x → old ≡ before ++ flat_map f (take i xs) → new ≡ before ++ flat_map f (take (i + 1) xs)
push_flat f xs i x before old new lt at is so_far =
    is ∙ ap (λ l. l ++ f x) so_far
    ∙ flat_map_more f before (take i xs) x
    ∙ ap (λ y. before ++ flat_map f (take i xs ++ y ∷ [])) at
    ∙ ap (λ l. before ++ flat_map f l) (sym (take_more xs i x lt))
