-- The paths of the build files of what an output `build` gives.
use Rattle.std.proofs.Common.{◌≡◌, inl, inr, ℕ, Bool, true, false, not, cond, List, [], ◌∷◌, ◌++◌, Option, Some, None, map, flat_map, bytes_eq, refl, sym, ◌∙◌, subst, true≢false, arith, ◌≤◌, ◌^◌, length}
use Rattle.std.specs.Prelude.{codes, IsTrue}
use Rattle.std.specs.Option.{IfSome, option_map}
use Rattle.std.specs.List.{AllPairs, list_all, enumerate_from}
use Rattle.std.proofs.lemmas.Bool.{and_parts}
use Rattle.std.proofs.lemmas.List.{length-map}
use Rattle.dg_text.specs.Paths.{is_project_path, ends_in}
use Rattle.dg_base.specs.declared.datum.Datum.{Datum}
use Rattle.dg_base.specs.Weight.{weight}
use Rattle.dg_base.specs.Value.{max_weight, enough_fuel}
use Rattle.dg_labels.specs.declared.labels.TheConstants.{TYPE, DATA, COMPONENTS, OBJECT, ENTRIES}
use Rattle.dg_kinds_go.specs.Values.{field_in}
use Rattle.dg_kinds_go.specs.Components.{is_type_name}
use Rattle.dg_kinds_coll.specs.Defold.{defold_tables}
use Rattle.dg_build.specs.declared.target.Target.{Target}
use Rattle.dg_build.specs.Firsts.{firsts}
use Rattle.dg_build.specs.Paths.{without_ending, is_of_collection, stem_of, component_path, object_path, collection_path}
use Rattle.dg_build.specs.Contents.{Content, same_content, content_with, content_in, contents_of, contents_in, path_in, entries_in, object_in, components_in}
use Rattle.dg_build.specs.Objects.{object_text}
use Rattle.dg_build.specs.Entries.{collection_text}
use Rattle.dg_build.specs.Targets.{target, different_contents, component_targets, object_targets, entries_with_texts, collection_targets, game_object_targets, whole_targets, targets}
use Rattle.dg_laws.proofs.Filters.{length_filter_le}
use Rattle.dg_build_laws.specs.Laws.{build_of, OfBuildFiles, BuildFilesHavePaths, BuildFilesStayBelow, BuildFilesDiffer}
use Rattle.dg_build_laws.proofs.Lists.{at_test, Each, Each-append, Each-filter, Each-weaker, Each-numbered, Each-map, Each-mapped, Each-flat_map, Each-filter_map, all_pass}
use Rattle.dg_build_laws.proofs.Kept.{says_type, Kept, fit_kept, items_kept, field_kept}
use Rattle.dg_build_laws.proofs.Arguments.{OfGood}
use Rattle.dg_build_laws.proofs.Values.{Light, within_kept, sound_kept, defold_keeps}
use Rattle.dg_build_laws.proofs.Builds.{IsBuiltPath, SaysPath, build_says}
use Rattle.dg_build_laws.proofs.Segments.{IsStem, stem_without}
use Rattle.dg_build_laws.proofs.Folders.{path_behind}
use Rattle.dg_build_laws.proofs.Differing.{Differ, EachPair, pairs_append, pairs_all, components_differ, objects_differ, component_object, component_last, object_last}
use Rattle.dg_build_laws.proofs.Counts.{contents_few, entries_few}
use Rattle.dg_build_laws.proofs.Names.{component_tail, object_tail, component_free, object_free, computed_free, component_long, object_long}

-- ---- the stem

stem_built : (path : List ℕ) → IsBuiltPath path → IsStem (stem_of path)
stem_built path is = by_test (is_of_collection path) refl is
  where
    of_collection : is_project_path path ≡ true → ends_in path (codes ".collection") ≡ true → IsStem (without_ending path (codes ".collection"))
    of_collection = stem_without path (codes ".collection") (computed_free (codes ".collection") refl)

    by_test : (b : Bool) → is_of_collection path ≡ b → IsBuiltPath path →
        IsStem (cond b (without_ending path (codes ".collection")) (without_ending path (codes ".go")))
    by_test true e (inl go) = of_collection (and_parts (is_project_path path) (ends_in path (codes ".go")) go).0 e
    by_test true e (inr coll) = of_collection (and_parts (is_project_path path) (ends_in path (codes ".collection")) coll).0 e
    by_test false e (inl go) =
        let both = and_parts (is_project_path path) (ends_in path (codes ".go")) go in
        stem_without path (codes ".go") (computed_free (codes ".go") refl) both.0 both.1
    by_test false e (inr coll) =
        let both = and_parts (is_project_path path) (ends_in path (codes ".collection")) coll in
        absurd (true≢false (sym both.1 ∙ e))

-- ---- the types of contents

abbrev IsNamed : Content → Type 0
IsNamed c = is_type_name c.kind ≡ true

content_named : (d : Datum) → Kept d → IfSome (content_in d) IsNamed
content_named d h = by_data (field_in (Some d) DATA) (fit_kept d h)
  where
    by_data : (o : Option Datum) → says_type o (field_in (Some d) TYPE) ≡ true → IfSome (option_map (content_with d) o) IsNamed
    by_data None e = tt
    by_data (Some body) e = e

object_named : (object : Option Datum) → IfSome object Kept → Each IsNamed (contents_of object)
object_named object h =
    Each-filter_map IsNamed content_in (components_in object)
    (Each-weaker Kept (λ d. IfSome (content_in d) IsNamed) content_named (components_in object)
    (items_kept (field_in object COMPONENTS) (field_kept object COMPONENTS h)))

all_named : (built : Datum) → Kept built → Each IsNamed (contents_in built)
all_named built h =
    at_test (Each IsNamed) (is_of_collection (path_in built)) (flat_map (λ e. contents_of (object_in e)) (entries_in built)) (contents_of (Some built))
    (Each-flat_map IsNamed (λ e. contents_of (object_in e)) (entries_in built)
    (Each-weaker Kept (λ e. Each IsNamed (contents_of (object_in e))) (λ e k. object_named (object_in e) (field_kept (Some e) OBJECT k)) (entries_in built)
    (items_kept (field_in (Some built) ENTRIES) (field_kept (Some built) ENTRIES h))))
    (object_named (Some built) h)

firsts_each : {X : Type 0} (P : X → Type 0) (same : X → X → Bool) (xs : List X) → Each P xs → Each P (firsts same xs)
firsts_each P same [] h = tt
firsts_each P same (x ∷ xs) h = (h.0, Each-filter P (λ y. not (same x y)) (firsts same xs) (firsts_each P same xs h.1))

-- ---- the files

abbrev IsBelow : Target → Type 0
IsBelow f = is_project_path f.path ≡ true

module _ (stem : List ℕ) (is : IsStem stem) where
  components_below : (contents : List Content) → Each IsNamed contents → Each IsBelow (component_targets stem contents)
  components_below contents h =
      Each-map IsBelow (λ c. target (component_path stem c.0 c.1.kind) c.1.body) (enumerate_from 0 contents)
      (Each-weaker (λ c. IsNamed c.1) (λ c. is_project_path (component_path stem c.0 c.1.kind) ≡ true)
      (λ c named. is (component_tail c.0 c.1.kind) (component_free c.0 c.1.kind named) (component_long c.0 c.1.kind))
      (enumerate_from 0 contents) (Each-numbered IsNamed 0 contents h))

  objects_below : (texts : List (List ℕ)) → Each IsBelow (object_targets stem texts)
  objects_below texts =
      Each-mapped IsBelow (λ t. target (object_path stem t.0) t.1) (λ t. is (object_tail t.0) (object_free t.0) (object_long t.0)) (enumerate_from 0 texts)

  collection_below : (built : Datum) (entries : List (Datum × List ℕ)) → Each IsBelow (collection_targets stem built entries)
  collection_below built entries =
      let texts = firsts bytes_eq (map (λ e. e.1) entries) in
      Each-append IsBelow (object_targets stem texts) (target (collection_path stem) (collection_text stem texts built entries) ∷ []) (objects_below texts)
      (is (codes ".collectionc") (computed_free (codes ".collectionc") refl) (omega arith), tt)

  game_object_below : (contents : List Content) (names : List (List ℕ)) (built : Datum) → Each IsBelow (game_object_targets stem contents names built)
  game_object_below contents names built = (is (codes ".goc") (computed_free (codes ".goc") refl) (omega arith), tt)

  whole_below : (contents : List Content) (names : List (List ℕ)) (built : Datum) → Each IsBelow (whole_targets stem contents names built)
  whole_below contents names built =
      let entries = entries_with_texts stem contents names (entries_in built) in
      at_test (Each IsBelow) (is_of_collection (path_in built)) (collection_targets stem built entries) (game_object_targets stem contents names built)
      (collection_below built entries) (game_object_below contents names built)

targets_below : (built : Datum) (names : List (List ℕ)) → SaysPath built → Kept built → Each IsBelow (targets built names)
targets_below built names path kept =
    let stem = stem_of (path_in built) in
    let is = stem_built (path_in built) path in
    let contents = different_contents built in
    Each-append IsBelow (component_targets stem contents) (whole_targets stem contents names built)
    (components_below stem is contents (firsts_each IsNamed same_content (contents_in built) (all_named built kept)))
    (whole_below stem is contents names built)

-- ---- how they differ

firsts_few : {X : Type 0} (same : X → X → Bool) (xs : List X) → length (firsts same xs) ≤ length xs
firsts_few same [] = omega arith
firsts_few same (x ∷ xs) = omega (arith, length_filter_le (λ y. not (same x y)) (firsts same xs), firsts_few same xs)

contents_differ : (stem : List ℕ) (built : Datum) → weight built ≤ max_weight → EachPair (component_targets stem (different_contents built))
contents_differ stem built light =
    components_differ stem (different_contents built) (omega (arith, firsts_few same_content (contents_in built), contents_few built, light))

module _ (stem : List ℕ) (contents : List Content) (names : List (List ℕ)) (built : Datum) (light : weight built ≤ max_weight) where
  abbrev entries : List (Datum × List ℕ)
  entries = entries_with_texts stem contents names (entries_in built)

  abbrev texts : List (List ℕ)
  texts = firsts bytes_eq (map (λ e. e.1) entries)

  texts_few : length texts ≤ 2 ^ 64
  texts_few =
      let all = length-map entries (λ e. e.1) in
      let each = length-map {B = Datum × List ℕ} (entries_in built) (λ e. (e, object_text stem contents names (object_in e))) in
      omega (arith, firsts_few bytes_eq (map (λ e. e.1) entries), all, each, entries_few built, light)

  collection_differ : EachPair (collection_targets stem built entries)
  collection_differ =
      let last = target (collection_path stem) (collection_text stem texts built entries) in
      pairs_append (object_targets stem texts) (last ∷ []) (objects_differ stem texts texts_few) (tt, tt)
      (Each-mapped (λ f. Each (Differ f) (last ∷ [])) (λ t. target (object_path stem t.0) t.1) (λ t. (object_last stem t.0 (codes "collectionc"), tt)) (enumerate_from 0 texts))

  whole_differ : EachPair (whole_targets stem contents names built)
  whole_differ =
      at_test EachPair (is_of_collection (path_in built)) (collection_targets stem built entries) (game_object_targets stem contents names built)
      collection_differ (tt, tt)

  -- a component's file is none of the others
  component_apart : (n : ℕ) (c : Content) → Each (Differ (target (component_path stem n c.kind) c.body)) (whole_targets stem contents names built)
  component_apart n c =
      let f = target (component_path stem n c.kind) c.body in
      let last = target (collection_path stem) (collection_text stem texts built entries) in
      at_test (Each (Differ f)) (is_of_collection (path_in built)) (collection_targets stem built entries) (game_object_targets stem contents names built)
      (Each-append (Differ f) (object_targets stem texts) (last ∷ [])
      (Each-mapped (Differ f) (λ t. target (object_path stem t.0) t.1) (λ t. component_object stem n t.0 c.kind) (enumerate_from 0 texts))
      (component_last stem n c.kind (codes "collectionc"), tt))
      (component_last stem n c.kind (codes "goc"), tt)

targets_differ : (built : Datum) (names : List (List ℕ)) → weight built ≤ max_weight → AllPairs Differ (targets built names)
targets_differ built names light =
    let stem = stem_of (path_in built) in
    let contents = different_contents built in
    let rest = whole_targets stem contents names built in
    pairs_all (targets built names)
    (pairs_append (component_targets stem contents) rest (contents_differ stem built light) (whole_differ stem contents names built light)
    (Each-mapped (λ f. Each (Differ f) rest) (λ c. target (component_path stem c.0 c.1.kind) c.1.body)
    (λ c. component_apart stem contents names built light c.0 c.1) (enumerate_from 0 contents)))

-- ---- the laws

-- what holds of each of them, where it holds of each with a project path
each_file : (p : Target → Bool) → ((f : Target) → IsBelow f → p f ≡ true) → OfBuildFiles (λ files. IsTrue (list_all p files))
each_file p h g sound n built names e =
    let path : Light SaysPath built = subst (OfGood (Light SaysPath)) e (build_says g n) in
    let kept : Kept built = subst (OfGood Kept) e (within_kept defold_keeps g (sound_kept sound) (enough_fuel defold_tables g) (build_of n)) in
    all_pass p (targets built names) (Each-weaker IsBelow (λ f. p f ≡ true) h (targets built names) (targets_below built names path.0 kept))

pub have_paths : BuildFilesHavePaths
have_paths = each_file (λ f. is_project_path f.path) (λ f h. h)

pub stay_below : BuildFilesStayBelow
stay_below folder is = each_file (λ f. is_project_path (folder ++ f.path)) (λ f h. path_behind folder f.path is h)

pub differ : BuildFilesDiffer
differ g sound n built names e =
    let path : Light SaysPath built = subst (OfGood (Light SaysPath)) e (build_says g n) in
    targets_differ built names path.1
