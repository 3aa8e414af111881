-- What the cache's operations keep.
use Rattle.std.proofs.Common.{◌≡◌, ℕ, zero, suc, ◌+◌, ◌<◌, ◌⊎◌, not, List, [], ◌∷◌, take, length, get_or, Contains, refl, ap, ◌∙◌, subst, inl, inr, arith}
use Rattle.std.proofs.lemmas.List.Elements.{Contains-append_cases}
use Rattle.dg_base.specs.declared.ids.Endpoint.{Endpoint}
use Rattle.dg_laws.proofs.Members.{Contains-head, Contains-tail, Contains-cases, Contains-none, Contains-from_filter}
use Rattle.dg_cache.specs.declared.entry.Entry.{Entry}
use Rattle.dg_cache.specs.Entries.{ends_of, is_at, entry_of, others, to_front, touched, put_entry, put_all, entries_at, in_order}
use Rattle.dg_base.specs.Order.{ordered}

pub Contains-from_take : {X : Type 0} (k : ℕ) (xs : List X) (x : X) → Contains (take k xs) x → Contains xs x
Contains-from_take zero xs x h = Contains-none x h
Contains-from_take (suc k) [] x h = Contains-none x h
Contains-from_take (suc k) (y ∷ ys) x h =
    elim (Contains-cases y (take k ys) x h) [
      | inl is ↦ subst (λ (z : _). Contains (y ∷ ys) z) is (Contains-head y ys)
      | inr rest ↦ Contains-tail y ys x (Contains-from_take k ys x rest)
    ]

pub to_front-from : (e : Endpoint) (es : List Entry) (x : Entry) → Contains (to_front e es) x → Contains es x
to_front-from e es x h =
    elim (Contains-append_cases (entry_of e es) (others e es) x h) [
      | inl front ↦ (Contains-from_filter (is_at e) es x front).0
      | inr back ↦ (Contains-from_filter (λ y. not (is_at e y)) es x back).0
    ]

pub touched-from : (hs : List Endpoint) (es : List Entry) (x : Entry) → Contains (touched hs es) x → Contains es x
touched-from [] es x h = h
touched-from (e ∷ hs) es x h = to_front-from e es x (touched-from hs (to_front e es) x h)

pub put_entry-from : (c : ℕ) (y : Entry) (es : List Entry) (x : Entry) → Contains (put_entry c y es) x → (y ≡ x) ⊎ Contains es x
put_entry-from c y es x h =
    elim (Contains-cases y (others y.at es) x (Contains-from_take c (y ∷ others y.at es) x h)) [
      | inl is ↦ inl is
      | inr rest ↦ inr (Contains-from_filter (λ z. not (is_at y.at z)) es x rest).0
    ]

pub put_all-from : (c : ℕ) (ys es : List Entry) (x : Entry) → Contains (put_all c ys es) x → Contains ys x ⊎ Contains es x
put_all-from c [] es x h = inr h
put_all-from c (y ∷ ys) es x h =
    elim (put_all-from c ys (put_entry c y es) x h) [
      | inl among ↦ inl (Contains-tail y ys x among)
      | inr kept ↦
          elim (put_entry-from c y es x kept) [
            | inl is ↦ inl (subst (λ (z : Entry). Contains (y ∷ ys) z) is (Contains-head y ys))
            | inr before ↦ inr before
          ]
    ]

pub put_all_more : (c : ℕ) (xs es : List Entry) (i : ℕ) (d : Entry) → i < length xs → put_all c (take (i + 1) xs) es ≡ put_entry c (get_or xs i d) (put_all c (take i xs) es)
put_all_more c [] es i d h = absurd (omega (arith, h))
put_all_more c (x ∷ xs) es zero d h = refl
put_all_more c (x ∷ xs) es (suc i) d h =
    let k : suc i + 1 ≡ suc (i + 1) = omega arith in
    ap (λ (m : ℕ). put_all c (take m (x ∷ xs)) es) k ∙ put_all_more c xs (put_entry c x es) i d (omega (arith, h))

at-from : (ends : List Endpoint) (es : List Entry) (x : Entry) → Contains (entries_at ends es) x → Contains es x
at-from [] es x h = Contains-none x h
at-from (e ∷ ends) es x h =
    elim (Contains-append_cases (entry_of e es) (entries_at ends es) x h) [
      | inl here ↦ (Contains-from_filter (is_at e) es x here).0
      | inr later ↦ at-from ends es x later
    ]

pub in_order-from : (es : List Entry) (x : Entry) → Contains (in_order es) x → Contains es x
in_order-from es x h = at-from (ordered (ends_of es)) es x h
