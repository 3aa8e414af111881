-- The paths of build files differ: those of one sort by their numbers, and those of two sorts by how they go on behind the
-- stem.
use Rattle.std.proofs.Common.{◌≡◌, ◌≢◌, ℕ, ◌+◌, ◌^◌, ◌≤◌, ◌<◌, Bool, false, ◌==◌, List, [], ◌∷◌, ◌++◌, map, length, get_or, refl, sym, ap, ◌∙◌, arith, ne_eqb}
use Rattle.std.specs.Prelude.{codes}
use Rattle.std.specs.List.{AllPairs, enumerate_from, slice_split}
use Rattle.std.specs.Fmt.{decimal}
use Rattle.std.proofs.lemmas.Fmt.{decimal_injective}
use Rattle.std.proofs.lemmas.List.{append_cancel_left}
use Rattle.std.proofs.lemmas.List.Elements.{All-from_recursion}
use Rattle.std.proofs.lemmas.List.Kept.{AllPairs-cons}
use Rattle.std.proofs.lemmas.List.Splits.{slice_split_at}
use Rattle.dg_build.specs.declared.target.Target.{Target}
use Rattle.dg_build.specs.Paths.{component_path, object_path}
use Rattle.dg_build.specs.Contents.{Content}
use Rattle.dg_build.specs.Targets.{target, component_targets, object_targets}
use Rattle.dg_build_laws.proofs.Lists.{Each, Each-append, Each-weaker}
use Rattle.dg_build_laws.proofs.Names.{component_tail, object_tail, decimal_high}

abbrev pub Differ : Target → Target → Type 0
Differ f h = f.path ≢ h.path

-- ---- pairs

-- each member and each later one
abbrev pub EachPair : List Target → Type 0
EachPair [] = Unit {0}
EachPair (f ∷ fs) = Each (Differ f) fs × EachPair fs

pub pairs_append : (fs hs : List Target) → EachPair fs → EachPair hs → Each (λ f. Each (Differ f) hs) fs → EachPair (fs ++ hs)
pairs_append [] hs h k across = k
pairs_append (f ∷ fs) hs h k across = (Each-append (Differ f) fs hs h.0 across.0, pairs_append fs hs h.1 k across.1)

pub pairs_all : (fs : List Target) → EachPair fs → AllPairs Differ fs
pairs_all [] h = λ i j d lt below. absurd (omega (arith, below))
pairs_all (f ∷ fs) h = AllPairs-cons Differ f fs (All-from_recursion (Differ f) fs h.0) (pairs_all fs h.1)

-- ---- numbers

abbrev is_point : ℕ → Bool
is_point b = b == 46

-- a decimal ends before the first point
before_point : (n : ℕ) (rest : List ℕ) → slice_split is_point (decimal n ++ 46 ∷ rest) ≡ decimal n ∷ slice_split is_point rest
before_point n rest =
    slice_split_at is_point (decimal n) 46 rest
    (All-from_recursion (λ b. is_point b ≡ false) (decimal n)
    (Each-weaker (λ b. 48 ≤ b) (λ b. is_point b ≡ false) (λ b high. ne_eqb b 46 (λ e. omega (arith, high, e))) (decimal n) (decimal_high n)))
    refl

abbrev first_of_parts : List (List ℕ) → List ℕ
first_of_parts [] = []
first_of_parts (p ∷ ps) = p

same_number : (m n : ℕ) (r s : List ℕ) → m < 2 ^ 64 → n < 2 ^ 64 → decimal m ++ 46 ∷ r ≡ decimal n ++ 46 ∷ s → m ≡ n
same_number m n r s p q e =
    decimal_injective m n p q (ap first_of_parts (sym (before_point m r) ∙ ap (slice_split is_point) e ∙ before_point n s))

-- files by their numbers
module _ (stem word : List ℕ) {X : Type 0} (rest body : X → List ℕ) where
  abbrev one : ℕ × X → Target
  one c = target (stem ++ (word ++ (decimal c.0 ++ 46 ∷ rest c.1))) (body c.1)

  abbrev numbered : ℕ → List X → List Target
  numbered k xs = map one (enumerate_from k xs)

  number_of : (m n : ℕ) (x y : X) → m < 2 ^ 64 → n < 2 ^ 64 → (one (m, x)).path ≡ (one (n, y)).path → m ≡ n
  number_of m n x y p q e =
      same_number m n (rest x) (rest y) p q
      (append_cancel_left word (decimal m ++ 46 ∷ rest x) (decimal n ++ 46 ∷ rest y)
      (append_cancel_left stem (word ++ (decimal m ++ 46 ∷ rest x)) (word ++ (decimal n ++ 46 ∷ rest y)) e))

  later_differ : (m : ℕ) (x : X) (k : ℕ) (xs : List X) → m < k → k + length xs ≤ 2 ^ 64 → Each (Differ (one (m, x))) (numbered k xs)
  later_differ m x k [] lt few = tt
  later_differ m x k (y ∷ ys) lt few = (
    λ e. omega (arith, lt, number_of m k x y (omega (arith, lt, few)) (omega (arith, few)) e),
    later_differ m x (k + 1) ys (omega (arith, lt)) (omega (arith, few)),
  )

  numbered_differ : (k : ℕ) (xs : List X) → k + length xs ≤ 2 ^ 64 → EachPair (numbered k xs)
  numbered_differ k [] few = tt
  numbered_differ k (x ∷ xs) few =
      (later_differ k x (k + 1) xs (omega arith) (omega (arith, few)), numbered_differ (k + 1) xs (omega (arith, few)))

-- ---- sorts

other_tail : (stem a b : List ℕ) (i x y : ℕ) → get_or a i 0 ≡ x → get_or b i 0 ≡ y → x ≢ y → stem ++ a ≢ stem ++ b
other_tail stem a b i x y is other differ e = differ (sym is ∙ ap (λ (l : List ℕ). get_or l i 0) (append_cancel_left stem a b e) ∙ other)

module _ (stem : List ℕ) where
  pub components_differ : (contents : List Content) → length contents ≤ 2 ^ 64 → EachPair (component_targets stem contents)
  components_differ contents few =
      numbered_differ stem (codes "_component_") (λ c. c.kind ++ codes "c") (λ c. c.body) 0 contents (omega (arith, few))

  pub objects_differ : (texts : List (List ℕ)) → length texts ≤ 2 ^ 64 → EachPair (object_targets stem texts)
  objects_differ texts few = numbered_differ stem (codes "_object_") (λ t. codes "goc") (λ t. t) 0 texts (omega (arith, few))

  -- a component's file is none of an object's, whose second byte is another, and none that begins with a point
  pub component_object : (n m : ℕ) (kind : List ℕ) → component_path stem n kind ≢ object_path stem m
  component_object n m kind = other_tail stem (component_tail n kind) (object_tail m) 1 99 111 refl refl (λ e. omega (arith, e))

  pub component_last : (n : ℕ) (kind ending : List ℕ) → component_path stem n kind ≢ stem ++ 46 ∷ ending
  component_last n kind ending = other_tail stem (component_tail n kind) (46 ∷ ending) 0 95 46 refl refl (λ e. omega (arith, e))

  pub object_last : (n : ℕ) (ending : List ℕ) → object_path stem n ≢ stem ++ 46 ∷ ending
  object_last n ending = other_tail stem (object_tail n) (46 ∷ ending) 0 95 46 refl refl (λ e. omega (arith, e))
