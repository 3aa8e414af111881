-- What holds of each thing that has a name, or a place, where one more comes to it.
use Rattle.std.proofs.Common.{◌≡◌, ◌⊎◌, ℕ, zero, suc, ◌<◌, Bool, true, false, cond, List, [], ◌∷◌, ◌++◌, Some, None, length, slice_get, bytes_eq, refl, subst, inl, inr, arith}
use Rattle.dg_load.specs.Named.{find, put}

module _ {V : Type 0} where
  -- what each name stands for
  abbrev pub Each : List (List ℕ × V) → (V → Type 0) → Type 0
  Each ns holds = (name : List ℕ) (v : V) → find ns name ≡ Some v → holds v

  none_named : {P : Type 0} (v : V) → None ≡ Some v → P
  none_named v e = let wrong : None ≡ Some v = e in absurd cc

  find-put : (name : List ℕ) (v : V) (ns : List (List ℕ × V)) (other : List ℕ) (w : V) → find (put name v ns) other ≡ Some w → (v ≡ w) ⊎ (find ns other ≡ Some w)
  find-put name v [] other w e = by_test (bytes_eq other name) e
    where
      by_test : (b : Bool) → cond b (Some v) None ≡ Some w → (v ≡ w) ⊎ (None ≡ Some w)
      by_test true h = inl cc
      by_test false h = inr h
  find-put name v (n ∷ ns) other w e = by_tests (bytes_eq name n.0) (bytes_eq other n.0) e (find-put name v ns other w)
    where
      later : (c : Bool) → cond c (Some n.1) (find (put name v ns) other) ≡ Some w → (find (put name v ns) other ≡ Some w → (v ≡ w) ⊎ (find ns other ≡ Some w)) →
          (v ≡ w) ⊎ (cond c (Some n.1) (find ns other) ≡ Some w)
      later true h rest = inr h
      later false h rest = rest h

      here : (c : Bool) → cond c (Some v) (find ns other) ≡ Some w → (v ≡ w) ⊎ (cond c (Some n.1) (find ns other) ≡ Some w)
      here true h = inl cc
      here false h = inr h

      by_tests : (b c : Bool) → find (cond b ((n.0, v) ∷ ns) (n ∷ put name v ns)) other ≡ Some w → (find (put name v ns) other ≡ Some w → (v ≡ w) ⊎ (find ns other ≡ Some w)) →
          (v ≡ w) ⊎ (find (n ∷ ns) other ≡ Some w)
      by_tests true c h rest = here (bytes_eq other n.0) h
      by_tests false c h rest = later (bytes_eq other n.0) h rest

  pub put-each : (holds : V → Type 0) (name : List ℕ) (v : V) (ns : List (List ℕ × V)) → Each ns holds → holds v → Each (put name v ns) holds
  put-each holds name v ns h last other w e =
      elim (find-put name v ns other w e) [
        | inl is ↦ subst holds is last
        | inr old ↦ h other w old
      ]

module _ {X : Type 0} where
  -- what stands at each place
  abbrev pub EachAt : List X → (X → Type 0) → Type 0
  EachAt xs holds = (place : ℕ) (x : X) → slice_get xs place ≡ Some x → holds x

  pub slice_get-last : (xs : List X) (x : X) → slice_get (xs ++ x ∷ []) (length xs) ≡ Some x
  slice_get-last [] x = refl
  slice_get-last (y ∷ xs) x = slice_get-last xs x

  pub slice_get-more : (xs ys : List X) (place : ℕ) → place < length xs → slice_get (xs ++ ys) place ≡ slice_get xs place
  slice_get-more [] ys place lt = absurd (omega (arith, lt))
  slice_get-more (x ∷ xs) ys zero lt = refl
  slice_get-more (x ∷ xs) ys (suc place) lt = slice_get-more xs ys place (omega (arith, lt))

  pub slice_get-push : (xs : List X) (y : X) (place : ℕ) (x : X) → slice_get (xs ++ y ∷ []) place ≡ Some x → (slice_get xs place ≡ Some x) ⊎ ((place ≡ length xs) × (y ≡ x))
  slice_get-push [] y zero x e = inr (refl, cc)
  slice_get-push [] y (suc place) x e = none_named x e
  slice_get-push (z ∷ xs) y zero x e = inl e
  slice_get-push (z ∷ xs) y (suc place) x e =
      elim (slice_get-push xs y place x e) [
        | inl old ↦ inl old
        | inr last ↦ let at = last.0 in inr (omega (arith, at), last.1)
      ]

  pub push-each : (holds : X → Type 0) (xs : List X) (x : X) → EachAt xs holds → holds x → EachAt (xs ++ x ∷ []) holds
  push-each holds xs x h last place y e =
      elim (slice_get-push xs x place y e) [
        | inl old ↦ h place y old
        | inr new ↦ subst holds new.1 last
      ]
