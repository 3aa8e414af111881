-- A pair taken out of one half is taken out of the whole.
use Rattle.std.proofs.Common.{◌≡◌, ℕ, ◌+◌, ◌<◌, ◌≤◌, Bool, true, false, Option, Some, None, List, [], ◌∷◌, ◌++◌, length, get_or, Ok, refl, sym, ap, subst, ◌∙◌, arith}
use Rattle.std.specs.Option.{unwrap_or}
use Rattle.dg_pmap.specs.Firsts.{first_key_of}
use Rattle.dg_pmap.specs.Edits.{IsFirst, Takes}
use Rattle.std.specs.Map.{remove_entry}
use Rattle.std.specs.BTreeMap.{is_at}
use Rattle.std.specs.declared.cmp.Ordering.{Ordering}
use Rattle.dg_pmap.specs.Heights.{fewest}
use Rattle.dg_pmap.proofs.Heights.{lt-fewest}

-- a chunk knows its first key
pub first_key-at : {K X : Type 0} (es : List (K × X)) (d : K × X) → 0 < length es → d ≡ get_or es 0 d → first_key_of es ≡ Some d.0
first_key-at [] d l e = absurd (omega arith)
first_key-at (x ∷ es) d l e = ap (λ y. Some y.0) (sym e)

-- ---- a fork, of which each half has a pair
first_append : {K X : Type 0} (low high : List (K × X)) → 0 < length low → first_key_of (low ++ high) ≡ first_key_of low
first_append [] high l = absurd (omega arith)
first_append (x ∷ low) high l = refl

some_pair : (height size : ℕ) → fewest height ≤ size → 0 < size
some_pair height size f = omega (arith, lt-fewest height)

pub first-low : {K X : Type 0} (height : ℕ) (low low' high all : List (K × X)) (first : Option K) → low ++ high ≡ all → fewest height ≤ length low → fewest height ≤ length low' → IsFirst low first low' → IsFirst all first (low' ++ high)
first-low height low low' high all (Some k) e f f' i = first_append low' high (some_pair height _ f') ∙ i
first-low height low low' high all None e f f' i = first_append low' high (some_pair height _ f') ∙ i ∙ sym (first_append low high (some_pair height _ f)) ∙ ap first_key_of e

pub first-high : {K X : Type 0} (height : ℕ) (low high high' all : List (K × X)) → low ++ high ≡ all → fewest height ≤ length low → IsFirst all None (low ++ high')
first-high height low high high' all e f = first_append low high' (some_pair height _ f) ∙ sym (first_append low high (some_pair height _ f)) ∙ ap first_key_of e

-- the split after its upper half has changed
pub split-first : {K X : Type 0} (split : K) (high high' : List (K × X)) (first : Option K) → first_key_of high ≡ Some split → IsFirst high first high' → first_key_of high' ≡ Some (unwrap_or first split)
split-first split high high' (Some k) f i = i
split-first split high high' None f i = i ∙ f

-- ---- what a call answered
pub takes-some : {K X : Type 0} (cmp : K → K → Ordering) (old : List (K × X)) (q : K) (o : Option (ℕ × Option K)) (r : ℕ × Option K) (new : List (K × X)) → o ≡ Some r → Takes cmp old q (Ok o) new → (r.0 ≡ length new) × (new ≡ remove_entry (is_at (cmp q)) old) × IsFirst old r.1 new
takes-some cmp old q o r new e t = let P : Option (ℕ × Option _) → Type 0 = λ x. Takes cmp old q (Ok x) new in subst P e t

pub takes-none : {K X : Type 0} (cmp : K → K → Ordering) (old : List (K × X)) (q : K) (o : Option (ℕ × Option K)) (new : List (K × X)) → o ≡ None → Takes cmp old q (Ok o) new → new ≡ old
takes-none cmp old q o new e t = let P : Option (ℕ × Option _) → Type 0 = λ x. Takes cmp old q (Ok x) new in subst P e t
