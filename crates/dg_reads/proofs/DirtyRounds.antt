-- Rounds over the dependencies of all endpoints find what is dirty, and a round that changes nothing is
-- the last that is needed.
use Rattle.std.proofs.Common.{◌≡◌, ℕ, zero, suc, ◌+◌, ◌-◌, ◌<◌, ◌≤◌, Bool, cond, true, false, List, [], ◌∷◌, ◌++◌, length, take, get_or, map, filter, refl, sym, ap, ◌∙◌, arith, append_assoc}
use Rattle.std.proofs.lemmas.List.{length-map, take_more}
use Rattle.std.specs.List.{list_any}
use Rattle.dg_base.specs.declared.ids.Endpoint.{Endpoint}
use Rattle.dg_base.specs.Order.{is_end_among, ordered, put_end}
use Rattle.dg_base.specs.Tables.{Tables}
use Rattle.dg_base.specs.Graph.{Graph}
use Rattle.dg_base.specs.Rule.{endpoints}
use Rattle.dg_base.specs.Dirty.{depends_on, dirty, dirty_within}
use Rattle.dg_laws.proofs.Orders.{ordered-push, ordered-ordered}
use Rattle.dg_laws.proofs.Ends.{ends_rank}
use Rattle.dg_reads.specs.declared.rounds.EndpointDependencies.{EndpointDependencies}
use Rattle.dg_reads.specs.DirtyRounds.{endpoint_dependencies, waiting, spread_over, settled}

-- one more put beside others in order
pub ordered-more : (es more : List Endpoint) (i : ℕ) (d : Endpoint) → i < length more → put_end (get_or more i d) (ordered (es ++ take i more)) ≡ ordered (es ++ take (i + 1) more)
ordered-more es more i d lt =
    sym (ordered-push ends_rank (es ++ take i more) (get_or more i d))
    ∙ ap ordered (append_assoc es (take i more) (get_or more i d ∷ []) ∙ ap (λ (z : List Endpoint). es ++ z) (sym (take_more more i d lt)))

spread_over-in_order : (all : List EndpointDependencies) (es : List Endpoint) → spread_over all es ≡ ordered (spread_over all es)
spread_over-in_order all es = sym (ordered-ordered ends_rank (es ++ waiting all es))

settled_stays : (all : List EndpointDependencies) (es : List Endpoint) (j n k : ℕ) → n ≡ j + k → spread_over all (settled k all es) ≡ settled k all es → settled n all es ≡ settled k all es
settled_stays all es zero n k at same = let is : n ≡ k = omega (arith, at) in ap (λ (m : ℕ). settled m all es) is
settled_stays all es (suc j) zero k at same = absurd (omega (arith, at))
settled_stays all es (suc j) (suc n) k at same =
    let before : n ≡ j + k = omega (arith, at) in
    ap (spread_over all) (settled_stays all es j n k before same) ∙ same

-- after a round that changes nothing, more rounds change nothing
settled-stays : (all : List EndpointDependencies) (es : List Endpoint) (k n : ℕ) → k ≤ n → spread_over all (settled k all es) ≡ settled k all es → settled n all es ≡ settled k all es
settled-stays all es k n le same =
    let both : n ≡ (n - k) + k = omega arith in
    settled_stays all es (n - k) n k both same

module _ (all : List EndpointDependencies) (es : List Endpoint) (k : ℕ) (before after : List Endpoint) (so_far : before ≡ settled k all es) (round : after ≡ spread_over all before) where
  pub settled-next : after ≡ settled (k + 1) all es
  settled-next = let on : suc k ≡ k + 1 = omega arith in round ∙ ap (spread_over all) so_far ∙ ap (λ (m : ℕ). settled m all es) on

  pub settled-last : (n : ℕ) → k < n → after ≡ before → after ≡ settled n all es
  settled-last n lt same =
      let le : k ≤ n = omega (arith, lt) in
      same ∙ so_far ∙ sym (settled-stays all es k n le (ap (spread_over all) (sym so_far) ∙ sym round ∙ same ∙ so_far))

  pub settled-in_order : after ≡ ordered after
  settled-in_order = round ∙ spread_over-in_order all before ∙ ap ordered (sym round)

module _ (t : Tables) (g : Graph) where
  waiting-depends : (xs es : List Endpoint) → waiting (map (endpoint_dependencies t g) xs) es ≡ filter (depends_on t g es) xs
  waiting-depends [] es = refl
  waiting-depends (x ∷ xs) es = by_test (depends_on t g es x) (waiting-depends xs es)
    where
      by_test : (b : Bool) → waiting (map (endpoint_dependencies t g) xs) es ≡ filter (depends_on t g es) xs →
          map (λ n. n.at) (cond b (endpoint_dependencies t g x ∷ filter (λ n. list_any (is_end_among es) n.on) (map (endpoint_dependencies t g) xs)) (filter (λ n. list_any (is_end_among es) n.on) (map (endpoint_dependencies t g) xs)))
          ≡ cond b (x ∷ filter (depends_on t g es) xs) (filter (depends_on t g es) xs)
      by_test true rest = ap (λ (z : List Endpoint). x ∷ z) rest
      by_test false rest = rest

  settled-dirty : (k : ℕ) (es : List Endpoint) → settled k (map (endpoint_dependencies t g) (endpoints t g)) (ordered es) ≡ dirty_within k t g es
  settled-dirty zero es = refl
  settled-dirty (suc k) es =
      ap (spread_over (map (endpoint_dependencies t g) (endpoints t g))) (settled-dirty k es)
      ∙ ap (λ (z : List Endpoint). ordered (dirty_within k t g es ++ z)) (waiting-depends (endpoints t g) (dirty_within k t g es))

  -- so many rounds as there are endpoints
  pub dirty-from_rounds : (all : List EndpointDependencies) (ends es start out : List Endpoint) → ends ≡ endpoints t g → all ≡ map (endpoint_dependencies t g) ends → start ≡ ordered es →
      out ≡ settled (length all) all start → out ≡ dirty t g es
  dirty-from_rounds all ends es start out each_end mapped first last =
      let each : all ≡ map (endpoint_dependencies t g) (endpoints t g) = mapped ∙ ap (map (endpoint_dependencies t g)) each_end in
      last
      ∙ ap (settled (length all) all) first
      ∙ ap (λ (z : List EndpointDependencies). settled (length z) z (ordered es)) each
      ∙ ap (λ (k : ℕ). settled k (map (endpoint_dependencies t g) (endpoints t g)) (ordered es)) (length-map (endpoints t g) (endpoint_dependencies t g))
      ∙ settled-dirty (length (endpoints t g)) es
