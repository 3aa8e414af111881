-- Least lists: there is one, and what is dirty is one.
use Rattle.std.proofs.Common.{◌≡◌, List, sym, ap, ◌∙◌, true}
use Rattle.std.proofs.lemmas.Bool.{and_parts, and_from}
use Rattle.dg_base.specs.declared.ids.Endpoint.{Endpoint}
use Rattle.dg_base.specs.Order.{is_end_among, ends_rise, ordered}
use Rattle.dg_base.specs.Tables.{Tables}
use Rattle.dg_base.specs.Graph.{Graph}
use Rattle.dg_base.specs.Rule.{dependencies, endpoints}
use Rattle.dg_base.specs.Dirty.{depends_on, dirty}
use Rattle.dg_laws.proofs.Among.{same_answer, among_from_Contains, Contains_from_among}
use Rattle.dg_laws.proofs.Members.{list_any_from, list_any_gives}
use Rattle.dg_laws.proofs.Orders.{same_rising, ordered-rise, ordered-among}
use Rattle.dg_laws.proofs.Ends.{ends_tell, ends_rank}
use Rattle.dg_laws.proofs.Dirties.{dirty-holds, dirty-closed, dirty-is}
use Rattle.dg_succ.specs.Pairs.{Pair}
use Rattle.dg_succ.specs.Closure.{Follows, IsLeastClosure}
use Rattle.dg_succ.specs.Walked.{IsLeastFound}
use Rattle.dg_succ.specs.Laws.{AreDependencies}

-- what was found, put in order
pub least-ordered : (ps : List Pair) (es found out : List Endpoint) → IsLeastFound ps es found → out ≡ ordered found → IsLeastClosure ps es out
least-ordered ps es found out s is = record {
  holds = λ e h. same e ∙ s.holds e h;
  closed = λ e f p h. same f ∙ s.closed e f p (sym (same e) ∙ h);
  least = λ fs w f e h. s.least fs w f e (sym (same e) ∙ h);
  in_order = ap ends_rise is ∙ ordered-rise ends_rank found;
}
  where
    same : (e : Endpoint) → is_end_among out e ≡ is_end_among found e
    same e = ap (λ l. is_end_among l e) is ∙ ordered-among ends_rank found e

pub least-one : (ps : List Pair) (es ds fs : List Endpoint) → IsLeastClosure ps es ds → IsLeastClosure ps es fs → ds ≡ fs
least-one ps es ds fs a b =
    same_rising ends_rank ds fs a.in_order b.in_order (λ e.
    same_answer (is_end_among ds e) (is_end_among fs e) (a.least fs b.holds b.closed e) (b.least ds a.holds a.closed e))

pub least-dirty : (t : Tables) (g : Graph) (ps : List Pair) → AreDependencies t g ps → (es ds : List Endpoint) → IsLeastClosure ps es ds → ds ≡ dirty t g es
least-dirty t g ps are es ds s =
    dirty-is t g es ds s.in_order s.holds closed (s.least (dirty t g es) (dirty-holds t g es) follows)
  where
    closed : (e : Endpoint) → is_end_among (endpoints t g) e ≡ true → depends_on t g ds e ≡ true → is_end_among ds e ≡ true
    closed e there h =
        let d = list_any_gives (is_end_among ds) (dependencies t g e) h in
        s.closed d.0 e (are d.0 e ∙ and_from _ _ there (among_from_Contains ends_tell (dependencies t g e) d.0 d.1)) d.2

    follows : Follows ps (dirty t g es)
    follows d e p h =
        let both = and_parts (is_end_among (endpoints t g) e) (is_end_among (dependencies t g e) d) (sym (are d e) ∙ p) in
        dirty-closed t g es e both.0 (list_any_from (is_end_among (dirty t g es)) (dependencies t g e) d (Contains_from_among ends_tell (dependencies t g e) d both.1) h)
