-- A path with another text behind its stem: what stands before the last slash stays, and the last segment changes.
use Rattle.std.proofs.Common.{◌≡◌, ℕ, ◌<◌, ◌≤◌, ◌-◌, Bool, true, false, not, cond, ◌&&◌, ◌==◌, List, [], ◌∷◌, ◌++◌, length, take, drop, refl, sym, ap, ◌∙◌, subst, true≢false, arith, ne_eqb, length-append, take-append-drop}
use Rattle.std.specs.Prelude.{codes}
use Rattle.std.specs.List.{All, list_all, slice_split, onto_first}
use Rattle.std.specs.Str.{bytes_eq}
use Rattle.std.proofs.lemmas.Bool.{and_parts, and_from}
use Rattle.std.proofs.lemmas.List.Splits.{slice_split_none}
use Rattle.dg_text.specs.Paths.{is_slash, is_segment, are_segments, is_project_path, ends_in}
use Rattle.dg_build.specs.Paths.{without_ending}
use Rattle.dg_build.proofs.EqualTexts.{texts_tell}

abbrev pub HasNoSlash : List ℕ → Type 0
HasNoSlash text = All (λ b. is_slash b ≡ false) text

-- parts, the last one with this behind it
abbrev last_with : List ℕ → List ℕ → List (List ℕ) → List (List ℕ)
last_with tail p [] = (p ++ tail) ∷ []
last_with tail p (q ∷ qs) = p ∷ last_with tail q qs

onto_last : (b : ℕ) (tail p : List ℕ) (ps : List (List ℕ)) → onto_first b (last_with tail p ps) ≡ last_with tail (b ∷ p) ps
onto_last b tail p [] = refl
onto_last b tail p (q ∷ qs) = refl

-- the parts of a text with a text without a slash behind it, whichever that is
abbrev PartsWith : List ℕ → List ℕ → List (List ℕ) → Type 0
PartsWith stem p ps = (tail : List ℕ) → HasNoSlash tail → slice_split is_slash (stem ++ tail) ≡ last_with tail p ps

parts_with : (stem : List ℕ) → (p : List ℕ) × (ps : List (List ℕ)) × PartsWith stem p ps
parts_with [] = ([], [], λ tail none. slice_split_none is_slash tail none)
parts_with (b ∷ bs) = by_test (is_slash b) refl (parts_with bs)
  where
    by_test : (c : Bool) → is_slash b ≡ c → ((p : List ℕ) × (ps : List (List ℕ)) × PartsWith bs p ps) → (p : List ℕ) × (ps : List (List ℕ)) × PartsWith (b ∷ bs) p ps
    by_test true e r = (
      [],
      r.0 ∷ r.1,
      λ tail none.
          ap (λ z. cond z ([] ∷ slice_split is_slash (bs ++ tail)) (onto_first b (slice_split is_slash (bs ++ tail)))) e
          ∙ ap (λ (l : List (List ℕ)). [] ∷ l) (r.2 tail none),
    )
    by_test false e r = (
      b ∷ r.0,
      r.1,
      λ tail none.
          ap (λ z. cond z ([] ∷ slice_split is_slash (bs ++ tail)) (onto_first b (slice_split is_slash (bs ++ tail)))) e
          ∙ ap (onto_first b) (r.2 tail none) ∙ onto_last b tail r.0 r.1,
    )

-- ---- segments

shorter : (text other : List ℕ) → length other < length text → bytes_eq text other ≡ false
shorter text other lt = by_test (bytes_eq text other) refl
  where
    by_test : (b : Bool) → bytes_eq text other ≡ b → b ≡ false
    by_test true e = absurd (omega (arith, lt, ap length (texts_tell.is text other e)))
    by_test false e = refl

-- three bytes are more than one or two points
long_segment : (s : List ℕ) → 3 ≤ length s → is_segment s ≡ true
long_segment s long =
    let some = shorter s [] (omega (arith, long)) in
    let point = shorter s (codes ".") (omega (arith, long)) in
    let points = shorter s (codes "..") (omega (arith, long)) in
    rw (some, point, points) refl

long_last : (p tail : List ℕ) → 3 ≤ length tail → is_segment (p ++ tail) ≡ true
long_last p tail long = long_segment (p ++ tail) (omega (arith, long, length-append p tail))

-- the last one may become another
all_segments : (tail other p : List ℕ) (ps : List (List ℕ)) → 3 ≤ length other → list_all is_segment (last_with tail p ps) ≡ true →
    list_all is_segment (last_with other p ps) ≡ true
all_segments tail other p [] long h = and_from (is_segment (p ++ other)) true (long_last p other long) refl
all_segments tail other p (q ∷ qs) long h =
    let both = and_parts (is_segment p) (list_all is_segment (last_with tail q qs)) h in
    and_from (is_segment p) (list_all is_segment (last_with other q qs)) both.0 (all_segments tail other q qs long both.1)

some_parts : (tail p : List ℕ) (ps : List (List ℕ)) → (length (last_with tail p ps) == 0) ≡ false
some_parts tail p [] = refl
some_parts tail p (q ∷ qs) = ne_eqb (length (p ∷ last_with tail q qs)) 0 (λ e. omega (arith, e))

segments_with : (tail other p : List ℕ) (ps : List (List ℕ)) → 3 ≤ length other → are_segments (last_with tail p ps) ≡ true → are_segments (last_with other p ps) ≡ true
segments_with tail other p [] long h =
    let first = and_parts (bytes_eq (p ++ tail) [] && false) true h in
    absurd (true≢false (sym (and_parts (bytes_eq (p ++ tail) []) false first.0).1))
segments_with tail other p (q ∷ qs) long h =
    let both = and_parts (bytes_eq p [] && not (length (last_with tail q qs) == 0)) (list_all is_segment (last_with tail q qs)) h in
    let first = and_parts (bytes_eq p []) (not (length (last_with tail q qs) == 0)) both.0 in
    and_from (bytes_eq p [] && not (length (last_with other q qs) == 0)) (list_all is_segment (last_with other q qs))
    (and_from (bytes_eq p []) (not (length (last_with other q qs) == 0)) first.0 (ap not (some_parts other q qs)))
    (all_segments tail other q qs long both.1)

-- ---- stems

-- what has any text of three bytes or more without a slash behind it is a project path
abbrev pub IsStem : List ℕ → Type 0
IsStem stem = (tail : List ℕ) → HasNoSlash tail → 3 ≤ length tail → is_project_path (stem ++ tail) ≡ true

stem_of_path : (stem ending : List ℕ) → HasNoSlash ending → is_project_path (stem ++ ending) ≡ true → IsStem stem
stem_of_path stem ending none is tail free long =
    let parts = parts_with stem in
    ap are_segments (parts.2 tail free) ∙ segments_with ending tail parts.0 parts.1 long (sym (ap are_segments (parts.2 ending none)) ∙ is)

-- the stem of a project path with this ending
pub stem_without : (path ending : List ℕ) → HasNoSlash ending → is_project_path path ≡ true → ends_in path ending ≡ true → IsStem (without_ending path ending)
stem_without path ending none is ends =
    let n = length path - length ending in
    let whole : path ≡ take n path ++ ending =
    sym (take-append-drop n path) ∙ ap (λ (r : List ℕ). take n path ++ r) (sym (texts_tell.is ending (drop n path) ends)) in
    let stem : take n path ≡ without_ending path ending = sym (ap (λ b. cond b (take n path) path) ends) in
    subst IsStem stem (stem_of_path (take n path) ending none (sym (ap is_project_path whole) ∙ is))
