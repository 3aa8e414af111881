-- The whole load of a project.
use Rattle.std.proofs.Common.{◌≡◌, ℕ, ◌<◌, List, [], Some, None, Result, Ok, Err, IfOk, IsTrue, length, Contains, fold, refl, sym, ◌∙◌, subst, inl, inr, arith}
use Rattle.std.proofs.lemmas.Option.{slice_get_cases}
use Rattle.dg_base.specs.declared.ids.NodeId.{NodeId}
use Rattle.dg_base.specs.declared.step.RefusedStep.{RefusedStep}
use Rattle.dg_base.specs.Names.{interned}
use Rattle.dg_base.specs.Tables.{Tables}
use Rattle.dg_base.specs.Graph.{Graph, has_node}
use Rattle.dg_base.specs.Transact.{Applied}
use Rattle.dg_kinds_coll.specs.Defold.{defold_tables}
use Rattle.dg_sources.specs.declared.limits.Large.{Large}
use Rattle.dg_sources.specs.declared.source.Sources.{Sources}
use Rattle.dg_sources.specs.Project.{sources_of}
use Rattle.dg_load.specs.declared.draft.Bound.{Bound}
use Rattle.dg_load.specs.declared.state.Load.{Load}
use Rattle.dg_load.specs.declared.whole.Loaded.{Loaded}
use Rattle.dg_load.specs.Draft.{started}
use Rattle.dg_load.specs.State.{start}
use Rattle.dg_load.specs.Scripts.{scripts}
use Rattle.dg_load.specs.Objects.{object_files}
use Rattle.dg_load.specs.Collections.{collection_files}
use Rattle.dg_load.specs.Order.{order_of}
use Rattle.dg_load.specs.Loads.{parts_behind, all_parts, draft_in, loaded_in, of_sources}
use Rattle.dg_load_laws.specs.Laws.{OfEachLoad, outcome, IsWithinLimits, LimitsAloneRefuse, makes_in, BoundNamesAreMade, EachMakeHasAnId, IsNode, BoundNamesAreNodes}
use Rattle.dg_load_laws.proofs.Outcomes.{Leads-weaker, begun, runs, Ends, transaction}
use Rattle.dg_load_laws.proofs.Drafts.{Stage, Holds, forget, start-holds}
use Rattle.dg_load_laws.proofs.Schema.{FitsLoads, defold_fits}
use Rattle.dg_load_laws.proofs.Files.{Idle, scripts-hold, object_files-hold, collection_files-hold}
use Rattle.dg_load_laws.proofs.Filling.{fill_all-holds}

begin-holds : (t : Tables) (names : List (List ℕ)) → Holds t (Idle t (start names)) (started names)
begin-holds t names =
    forget (λ p. Unit {0}) (Idle t (start names)) (λ p ready facts. (
      record {
        are_scripts = λ path k named. none_there named;
        are_objects = λ place o there. none_there there;
        are_collections = λ place k there. none_there there;
        are_filled = λ place f there. none_there there;
        closed = λ place f there. none_there there;
      },
      (λ path k named. none_there named),
      refl,
      (refl, refl, refl),
    )) (started names) (start-holds t names)
  where
    none_there : {V Q : Type 0} {v : V} → None ≡ Some v → Q
    none_there {V} {Q} {v} e = let wrong : None ≡ Some v = e in absurd cc

module _ {t : Tables} (fits : FitsLoads t) where
  parts_behind-hold : (listed : List (List ℕ)) (s : Sources) (l : Load) → Holds t (Idle t l) l.draft → Holds t (Idle t (parts_behind listed s l)) (parts_behind listed s l).draft
  parts_behind-hold listed s l h =
      let one = scripts s.scripts l in
      let two = object_files listed s.objects one in
      let three = collection_files s.collections two in
      fill_all-holds fits listed s.collections (order_of s.collections three.collection_files) three (
      collection_files-hold fits s.collections two (
      object_files-hold fits listed s.objects one (
      scripts-hold fits s.scripts l h)))

  all_parts-hold : (s : Sources) (l : Load) → Holds t (Idle t l) l.draft → Holds t (Idle t (all_parts s l)) (all_parts s l).draft
  unfolding all_parts
  all_parts-hold s l h = parts_behind-hold (fold interned [] s.paths) s l h

  whole-holds : (s : Sources) (names : List (List ℕ)) → Holds t (Idle t (all_parts s (start names))) (draft_in s names)
  whole-holds s names = all_parts-hold s (start names) (begin-holds t names)

-- ---- a load

-- an id for each of so many making steps, and each is that of a node
abbrev AreIds : ℕ → Graph → List NodeId → Type 0
AreIds makes g made = (length made ≡ makes) × ((n : NodeId) → Contains made n → IsTrue (has_node g n))

record IsMade (l : Loaded) : Type 0 where
  ends : Ends (AreIds (makes_in l.steps)) (outcome l)
  names : (b : Bound) → Contains l.bound b → b.node < makes_in l.steps

loaded : (s : Sources) (names : List (List ℕ)) → IsMade (loaded_in s names)
loaded s names =
    let d = draft_in s names in
    let h = whole-holds defold_fits s names in
    let same = h.counted in
    record {
      ends = transaction defold_tables (AreIds (makes_in d.steps)) d.steps 1 begun []
          (Leads-weaker (Stage defold_tables (Idle defold_tables (all_parts s (start names))) d.makes) (λ q. AreIds (makes_in d.steps) q.graph q.made) (runs defold_tables (Ok begun) d.steps) h.leads
          (λ q st. (st.count ∙ sym same, st.made_there)));
      names = λ b there. subst (λ n. b.node < n) (sym same) (h.made_names b there);
    }

each_made : (holds : Loaded → Type 0) → ((l : Loaded) → IsMade l → holds l) → OfEachLoad holds
each_made holds from tree names = by_sources (sources_of tree)
  where
    by_sources : (r : Result Sources Large) → IfOk (of_sources names r) (λ l. holds l.0)
    by_sources (Ok s) = from (loaded_in s names) (loaded s names)
    by_sources (Err limit) = tt

-- ---- what of it the laws say

within : (M : Graph → List NodeId → Type 0) (r : Result Applied RefusedStep) → Ends M r → IsWithinLimits r
within M (Ok a) h = tt
within M (Err c) h = h

accepted : (M : Graph → List NodeId → Type 0) (holds : Applied → Type 0) (r : Result Applied RefusedStep) → ((a : Applied) → M a.graph a.made → holds a) → Ends M r → IfOk r holds
accepted M holds (Ok a) from h = from a h
accepted M holds (Err c) from h = tt

node_of : (a : Applied) (makes k : ℕ) → k < makes → AreIds makes a.graph a.made → IsNode a k
node_of a makes k lt ids =
    elim (slice_get_cases a.made k).1 [
      | inl here ↦ (here.0, here.2, ids.1 here.0 (k, here.1, here.3))
      | inr past ↦ let long = ids.0 in let le = past.0 in absurd (omega (arith, lt, long, le))
    ]

pub limits_alone : LimitsAloneRefuse
limits_alone = each_made (λ l. IsWithinLimits (outcome l)) (λ l made. within (AreIds (makes_in l.steps)) (outcome l) made.ends)

pub names_made : BoundNamesAreMade
names_made = each_made (λ l. (b : Bound) → Contains l.bound b → b.node < makes_in l.steps) (λ l made. made.names)

pub each_id : EachMakeHasAnId
each_id =
    each_made (λ l. IfOk (outcome l) (λ a. length a.made ≡ makes_in l.steps)) (λ l made.
    accepted (AreIds (makes_in l.steps)) (λ a. length a.made ≡ makes_in l.steps) (outcome l) (λ a ids. ids.0) made.ends)

pub names_nodes : BoundNamesAreNodes
names_nodes =
    each_made (λ l. IfOk (outcome l) (λ a. (b : Bound) → Contains l.bound b → IsNode a b.node)) (λ l made.
    accepted (AreIds (makes_in l.steps)) (λ a. (b : Bound) → Contains l.bound b → IsNode a b.node) (outcome l)
    (λ a ids b there. node_of a (makes_in l.steps) b.node (made.names b there) ids) made.ends)
