-- A project path behind another one is a project path.
use Rattle.std.proofs.Common.{◌≡◌, ℕ, Bool, true, false, not, cond, ◌&&◌, ◌==◌, List, [], ◌∷◌, ◌++◌, length, refl, sym, ap, ◌∙◌, true≢false, arith, ne_eqb}
use Rattle.std.specs.List.{list_all, slice_split, onto_first}
use Rattle.std.specs.Str.{bytes_eq}
use Rattle.std.proofs.lemmas.Bool.{and_parts, and_from, eqb-true}
use Rattle.std.proofs.lemmas.List.Folds.{list_all-append}
use Rattle.dg_text.specs.Paths.{is_slash, is_segment, are_segments, is_project_path}

first_onto : (b : ℕ) (parts others : List (List ℕ)) → not (length parts == 0) ≡ true → onto_first b (parts ++ others) ≡ onto_first b parts ++ others
first_onto b [] others h = absurd (true≢false (sym h))
first_onto b (p ∷ ps) others h = refl

some_split : (text : List ℕ) → not (length (slice_split is_slash text) == 0) ≡ true
some_split [] = refl
some_split (b ∷ bs) = by_test (is_slash b) (slice_split is_slash bs)
  where
    some : (p : List ℕ) (ps : List (List ℕ)) → not (length (p ∷ ps) == 0) ≡ true
    some p ps = ap not (ne_eqb (length (p ∷ ps)) 0 (λ e. omega (arith, e)))

    onto : (parts : List (List ℕ)) → not (length (onto_first b parts) == 0) ≡ true
    onto [] = refl
    onto (p ∷ ps) = some (b ∷ p) ps

    by_test : (c : Bool) (parts : List (List ℕ)) → not (length (cond c ([] ∷ parts) (onto_first b parts)) == 0) ≡ true
    by_test true parts = some [] parts
    by_test false parts = onto parts

-- the parts before a slash, and those behind it
split_at : (before behind : List ℕ) → slice_split is_slash (before ++ 47 ∷ behind) ≡ slice_split is_slash before ++ slice_split is_slash behind
split_at [] behind = refl
split_at (b ∷ bs) behind = by_test (is_slash b) (split_at bs behind)
  where
    by_test : (c : Bool) → slice_split is_slash (bs ++ 47 ∷ behind) ≡ slice_split is_slash bs ++ slice_split is_slash behind →
        cond c ([] ∷ slice_split is_slash (bs ++ 47 ∷ behind)) (onto_first b (slice_split is_slash (bs ++ 47 ∷ behind)))
        ≡ cond c ([] ∷ slice_split is_slash bs) (onto_first b (slice_split is_slash bs)) ++ slice_split is_slash behind
    by_test true rest = ap (λ (l : List (List ℕ)). [] ∷ l) rest
    by_test false rest = ap (onto_first b) rest ∙ first_onto b (slice_split is_slash bs) (slice_split is_slash behind) (some_split bs)

some_more : (parts others : List (List ℕ)) → not (length parts == 0) ≡ true → not (length (parts ++ others) == 0) ≡ true
some_more [] others h = absurd (true≢false (sym h))
some_more (p ∷ ps) others h = ap not (ne_eqb (length (p ∷ (ps ++ others))) 0 (λ e. omega (arith, e)))

segments_behind : (parts others : List (List ℕ)) → are_segments parts ≡ true → list_all is_segment others ≡ true → are_segments (parts ++ others) ≡ true
segments_behind [] others h k = absurd (true≢false (sym h))
segments_behind (p ∷ ps) others h k =
    let both = and_parts (bytes_eq p [] && not (length ps == 0)) (list_all is_segment ps) h in
    let first = and_parts (bytes_eq p []) (not (length ps == 0)) both.0 in
    and_from (bytes_eq p [] && not (length (ps ++ others) == 0)) (list_all is_segment (ps ++ others))
    (and_from (bytes_eq p []) (not (length (ps ++ others) == 0)) first.0 (some_more ps others first.1))
    (list_all-append is_segment ps others ∙ and_from (list_all is_segment ps) (list_all is_segment others) both.1 k)

-- what stands behind the first slash of a project path, which it begins with
behind_slash : (path : List ℕ) → is_project_path path ≡ true → (rest : List ℕ) × (path ≡ 47 ∷ rest) × (list_all is_segment (slice_split is_slash rest) ≡ true)
behind_slash [] h = absurd (true≢false (sym h))
behind_slash (b ∷ bs) h = by_test (is_slash b) refl h
  where
    onto : {P : Type 0} (parts : List (List ℕ)) → are_segments (onto_first b parts) ≡ true → P
    onto [] k = absurd (true≢false (sym k))
    onto (p ∷ ps) k =
        let both = and_parts (bytes_eq (b ∷ p) [] && not (length ps == 0)) (list_all is_segment ps) k in
        absurd (true≢false (sym both.0))

    by_test : (c : Bool) → is_slash b ≡ c → are_segments (cond c ([] ∷ slice_split is_slash bs) (onto_first b (slice_split is_slash bs))) ≡ true →
        (rest : List ℕ) × (b ∷ bs ≡ 47 ∷ rest) × (list_all is_segment (slice_split is_slash rest) ≡ true)
    by_test true e k = (
      bs,
      ap (λ (n : ℕ). n ∷ bs) (eqb-true b 47 e),
      (and_parts (bytes_eq [] [] && not (length (slice_split is_slash bs) == 0)) (list_all is_segment (slice_split is_slash bs)) k).1,
    )
    by_test false e k = onto (slice_split is_slash bs) k

pub path_behind : (folder path : List ℕ) → is_project_path folder ≡ true → is_project_path path ≡ true → is_project_path (folder ++ path) ≡ true
path_behind folder path h k =
    let r = behind_slash path k in
    ap (λ (l : List ℕ). is_project_path (folder ++ l)) r.1
    ∙ ap are_segments (split_at folder r.0)
    ∙ segments_behind (slice_split is_slash folder) (slice_split is_slash r.0) h r.2
