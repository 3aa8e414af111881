-- From which node the sources of an input are inherited.
use Rattle.std.proofs.Common.{◌≡◌, ◌<◌, Bool, true, false, cond, ◌&&◌, List, [], ◌∷◌, ◌++◌, Option, Some, None, map, filter, refl, sym, ap, ◌∙◌, subst, true≢false}
use Rattle.std.specs.List.{list_any}
use Rattle.dg_base.specs.declared.ids.NodeId.{NodeId}
use Rattle.dg_base.specs.declared.ids.Label.{Label}
use Rattle.dg_base.specs.declared.ids.Endpoint.{Endpoint}
use Rattle.dg_base.specs.declared.ids.ArcRec.{ArcRec}
use Rattle.dg_base.specs.declared.graph.Origin.{Origin}
use Rattle.dg_base.specs.declared.graph.Origin.TheVariants as origin
use Rattle.dg_base.specs.Same.{same_node, same_label}
use Rattle.dg_base.specs.Graph.{Graph, origin_at, explicit_sources}
use Rattle.dg_base.specs.Sources.{sources, replaced, explicit_or}
use Rattle.dg_base.specs.Sound.{IsLinked}
use Rattle.dg_laws.proofs.Sources.{sources-absent, explicit_sources-absent}
use Rattle.dg_reads.specs.Inheritance.{from_origin, inherits, shown_by}
use Rattle.dg_reads.proofs.Origins.{absent-of, original-below, sources-from_plain, sources-from_over}

pub shown_by-push : (g : Graph) (rs : List NodeId) (r : NodeId) (ss : List Endpoint) → shown_by g (rs ++ r ∷ []) ss ≡ shown_by g rs (map (replaced g r) ss)
shown_by-push g [] r ss = refl
shown_by-push g (q ∷ rs) r ss = ap (map (replaced g q)) (shown_by-push g rs r ss)

none_pass : (p : ArcRec → Bool) (as_ : List ArcRec) → list_any p as_ ≡ false → filter p as_ ≡ []
none_pass p [] e = refl
none_pass p (a ∷ as_) e = by_test (p a) refl (λ rest. none_pass p as_ rest)
  where
    by_test : (b : Bool) → p a ≡ b → (list_any p as_ ≡ false → filter p as_ ≡ []) → filter p (a ∷ as_) ≡ []
    by_test true is others = let none_left : true ≡ false = cc in absurd (true≢false none_left)
    by_test false is others = let rest : list_any p as_ ≡ false = cc in let nothing : filter p as_ ≡ [] = others rest in cc

abbrev BeginsWithOne : List ArcRec → Type 0
BeginsWithOne as_ = (a : ArcRec) × ((rest : List ArcRec) × (as_ ≡ a ∷ rest))

some_pass : (p : ArcRec → Bool) (as_ : List ArcRec) → list_any p as_ ≡ true → BeginsWithOne (filter p as_)
some_pass p [] e = absurd (true≢false (sym e))
some_pass p (a ∷ as_) e = by_test (p a) refl (λ rest. some_pass p as_ rest)
  where
    by_test : (b : Bool) → p a ≡ b → (list_any p as_ ≡ true → BeginsWithOne (filter p as_)) → BeginsWithOne (filter p (a ∷ as_))
    by_test true is others = let same : filter p (a ∷ as_) ≡ a ∷ filter p as_ = cc in (a, (filter p as_, same))
    by_test false is others =
        let rest : list_any p as_ ≡ true = cc in
        let same : filter p (a ∷ as_) ≡ filter p as_ = cc in
        subst BeginsWithOne (sym same) (others rest)

abbrev is_into : NodeId → Label → ArcRec → Bool
is_into n i a = same_node a.node n && same_label a.input i

abbrev root_in : NodeId → Option (NodeId × NodeId) → NodeId
root_in d None = d
root_in d (Some p) = p.0

abbrev original_in : NodeId → Option (NodeId × NodeId) → NodeId
original_in d None = d
original_in d (Some p) = p.1

over_inside : (w : Option Origin) (root original : NodeId) → from_origin w ≡ Some (root, original) → w ≡ Some (origin.Over root original)
over_inside None root original e = let nothing : ⊥ = cc in absurd nothing
over_inside (Some (origin.Plain kind)) root original e = let nothing : ⊥ = cc in absurd nothing
over_inside (Some (origin.Over r o)) root original e =
    let first : r ≡ root = ap (root_in r) e in
    let second : o ≡ original = ap (original_in o) e in
    cc

module _ (g : Graph) (n : NodeId) (i : Label) where
  abbrev there : Bool
  there = list_any (is_into n i) g.arcs

  pub inherits-origin : (root original : NodeId) → inherits g n i ≡ Some (root, original) → origin_at g n ≡ Some (origin.Over root original)
  inherits-origin root original e = by_test there e
    where
      by_test : (b : Bool) → cond b None (from_origin (origin_at g n)) ≡ Some (root, original) → origin_at g n ≡ Some (origin.Over root original)
      by_test true h = let nothing : ⊥ = cc in absurd nothing
      by_test false h = over_inside (origin_at g n) root original h

  inherits-bare : (root original : NodeId) → inherits g n i ≡ Some (root, original) → there ≡ false
  inherits-bare root original e = by_test there refl e
    where
      by_test : (b : Bool) → there ≡ b → cond b None (from_origin (origin_at g n)) ≡ Some (root, original) → there ≡ false
      by_test true is h = let nothing : ⊥ = cc in absurd nothing
      by_test false is h = is

  pub inherits-sources : IsLinked g → (root original : NodeId) → inherits g n i ≡ Some (root, original) → sources g n i ≡ map (replaced g root) (sources g original i)
  inherits-sources l root original e =
      sources-from_over l n root original i (inherits-origin root original e)
      ∙ ap (λ (as_ : List ArcRec). explicit_or (map (λ a. a.src) as_) (map (replaced g root) (sources g original i))) (none_pass (is_into n i) g.arcs (inherits-bare root original e))

  stops-sources : IsLinked g → (w : Option Origin) → origin_at g n ≡ w → from_origin w ≡ None → sources g n i ≡ explicit_sources g n i
  stops-sources l None is e = sources-absent g n i (absent-of g n is) ∙ sym (explicit_sources-absent l n i (absent-of g n is))
  stops-sources l (Some (origin.Plain kind)) is e = sources-from_plain l n kind i is
  stops-sources l (Some (origin.Over r o)) is e = let nothing : ⊥ = cc in absurd nothing

  -- where there is an explicit arc, nothing is inherited
  explicit-sources : IsLinked g → (w : Option Origin) → origin_at g n ≡ w → there ≡ true → sources g n i ≡ explicit_sources g n i
  explicit-sources l (Some (origin.Over r o)) at is =
      let found = some_pass (is_into n i) g.arcs is in
      sources-from_over l n r o i at
      ∙ ap (λ (as_ : List ArcRec). explicit_or (map (λ a. a.src) as_) (map (replaced g r) (sources g o i))) found.1.1
      ∙ sym (ap (map (λ a. a.src)) found.1.1)
  explicit-sources l (Some (origin.Plain kind)) at is = stops-sources l (Some (origin.Plain kind)) at refl
  explicit-sources l None at is = stops-sources l None at refl

  pub inherits_none-sources : IsLinked g → inherits g n i ≡ None → sources g n i ≡ explicit_sources g n i
  inherits_none-sources l e = by_test there refl e
    where
      by_test : (b : Bool) → there ≡ b → cond b None (from_origin (origin_at g n)) ≡ None → sources g n i ≡ explicit_sources g n i
      by_test true is h = explicit-sources l (origin_at g n) refl is
      by_test false is h = stops-sources l (origin_at g n) refl h

  pub inherits-below : IsLinked g → (root original : NodeId) → inherits g n i ≡ Some (root, original) → original.0 < n.0
  inherits-below l root original e = original-below l n root original (inherits-origin root original e)
