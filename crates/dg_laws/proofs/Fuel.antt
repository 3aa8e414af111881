-- Values as fuel grows: what is settled stays, and one more than the number of endpoints settles all
-- that can be settled.
use Rattle.std.proofs.Common.{◌≡◌, ℕ, zero, suc, ◌+◌, ◌-◌, ◌<◌, ◌≤◌, ◌⊎◌, Bool, true, false, cond, not, ◌&&◌, List, [], ◌∷◌, map, filter, length, Contains, refl, sym, ap, ◌∙◌, subst, inl, inr, arith, true≢false, zero-add, suc-add}
use Rattle.std.proofs.lemmas.Bool.{and_parts, false_from_ne_true, not-true}
use Rattle.std.proofs.lemmas.List.Elements.{Contains-append_left, Contains-append_right}
use Rattle.std.specs.List.{list_any}
use Rattle.dg_base.specs.declared.ids.Kind.{Kind}
use Rattle.dg_base.specs.declared.ids.Endpoint.{Endpoint}
use Rattle.dg_base.specs.declared.answer.Answer.{Answer}
use Rattle.dg_base.specs.declared.answer.Answer.TheVariants as answer
use Rattle.dg_base.specs.declared.answer.FaultCode.TheVariants as code
use Rattle.dg_base.specs.declared.rule.ArgRule.{ArgRule}
use Rattle.dg_base.specs.declared.rule.ArgRule.TheVariants as arg_rule
use Rattle.dg_base.specs.declared.rule.Rule.{Rule}
use Rattle.dg_base.specs.declared.rule.Rule.TheVariants as rule
use Rattle.dg_base.specs.declared.schema.ArgVal.{ArgVal}
use Rattle.dg_base.specs.declared.schema.ArgVal.TheVariants as arg_val
use Rattle.dg_base.specs.Tables.{Tables, AreTables}
use Rattle.dg_base.specs.Graph.{Graph}
use Rattle.dg_base.specs.Rule.{rule_of, named_by_arg, named_by_args, named_by, endpoints}
use Rattle.dg_base.specs.Value.{is_cycle, one_fault, input_value, arg_value, produced, answer_by, value_within, enough_fuel, value_at}
use Rattle.dg_base.specs.Sound.{IsSound}
use Rattle.dg_laws.proofs.Members.{Contains-head, Contains-cases, Contains-none, list_any_from, list_any_gives, Contains-map, map_same}
use Rattle.dg_laws.proofs.Filters.{length_filter_le, filter_fewer, filter_some}
use Rattle.dg_laws.proofs.Nodes.{IsLinked-from_sound}
use Rattle.dg_laws.proofs.Endpoints.{Covers, covers}

-- ---- a rule's answer depends on the answers of the endpoints that it names

abbrev Agree : List Endpoint → (Endpoint → Answer) → (Endpoint → Answer) → Type 0
Agree es f h = (e : Endpoint) → Contains es e → f e ≡ h e

arg_value-same : (t : Tables) (k : Kind) (f h : Endpoint → Answer) (a : ArgRule) → Agree (named_by_arg a) f h → arg_value t k f a ≡ arg_value t k h a
arg_value-same t k f h (arg_rule.Own e) agree = ap (λ (v : Answer). arg_val.One v) (agree e (Contains-head e []))
arg_value-same t k f h (arg_rule.Input i ss) agree = ap (input_value (t.role k i) (t.substitute k i)) (map_same f h ss agree)
arg_value-same t k f h (arg_rule.Open ps) agree = refl

arg_values-same : (t : Tables) (k : Kind) (f h : Endpoint → Answer) (args : List ArgRule) → Agree (named_by_args args) f h →
    map (arg_value t k f) args ≡ map (arg_value t k h) args
arg_values-same t k f h [] agree = refl
arg_values-same t k f h (a ∷ as_) agree =
    let here = arg_value-same t k f h a (λ e c. agree e (Contains-append_left (named_by_arg a) (named_by_args as_) e c)) in
    let rest = arg_values-same t k f h as_ (λ e c. agree e (Contains-append_right (named_by_arg a) (named_by_args as_) e c)) in
    ap (λ (v : ArgVal). v ∷ map (arg_value t k f) as_) here ∙ ap (λ (vs : List ArgVal). arg_value t k h a ∷ vs) rest

pub answer_by-same : (t : Tables) (e : Endpoint) (f h : Endpoint → Answer) (r : Rule) → Agree (named_by r) f h → answer_by t e f r ≡ answer_by t e h r
answer_by-same t e f h rule.Absent agree = refl
answer_by-same t e f h rule.Defective agree = refl
answer_by-same t e f h (rule.Own d) agree = refl
answer_by-same t e f h (rule.From o) agree = agree o (Contains-head o [])
answer_by-same t e f h (rule.Default d) agree = refl
answer_by-same t e f h (rule.Call k l args) agree =
    ap (λ (as_ : List Answer). cond (list_any is_cycle as_) answer.Cycle (produced t e k l (map (arg_value t k f) args))) (map_same f h (named_by_args args) agree)
    ∙ ap (λ (vs : List ArgVal). cond (list_any is_cycle (map h (named_by_args args))) answer.Cycle (produced t e k l vs)) (arg_values-same t k f h args agree)

-- ---- what is settled stays

pub is_cycle-is : (a : Answer) → is_cycle a ≡ true → a ≡ answer.Cycle
is_cycle-is (answer.Good d) h = absurd (true≢false (sym h))
is_cycle-is (answer.Bad fs) h = absurd (true≢false (sym h))
is_cycle-is answer.Cycle h = refl

-- an answer that isn't a cycle was made of answers that aren't
pub named_settled : (t : Tables) (e : Endpoint) (f : Endpoint → Answer) (r : Rule) → is_cycle (answer_by t e f r) ≡ false →
    (o : Endpoint) → Contains (named_by r) o → is_cycle (f o) ≡ false
named_settled t e f rule.Absent h o c = Contains-none o c
named_settled t e f rule.Defective h o c = Contains-none o c
named_settled t e f (rule.Own d) h o c = Contains-none o c
named_settled t e f (rule.From s) h o c =
    elim (Contains-cases s [] o c) [ inl is ↦ subst (λ (z : Endpoint). is_cycle (f z) ≡ false) is h | inr none ↦ Contains-none o none ]
named_settled t e f (rule.Default d) h o c = Contains-none o c
named_settled t e f (rule.Call k l args) h o c =
    false_from_ne_true (is_cycle (f o)) (λ cyclic.
    let among : list_any is_cycle (map f (named_by_args args)) ≡ true =
    list_any_from is_cycle (map f (named_by_args args)) (f o) (Contains-map f (named_by_args args) o c) cyclic in
    let all : answer_by t e f (rule.Call k l args) ≡ answer.Cycle =
    ap (λ b. cond b answer.Cycle (produced t e k l (map (arg_value t k f) args))) among in
    true≢false (sym (ap is_cycle all) ∙ h))

-- a value that is settled is the same with one more fuel
pub settled : (k : ℕ) (t : Tables) (g : Graph) (e : Endpoint) → is_cycle (value_within k t g e) ≡ false →
    value_within (suc k) t g e ≡ value_within k t g e
settled zero t g e h = absurd (true≢false h)
settled (suc k) t g e h =
    answer_by-same t e (value_within (suc k) t g) (value_within k t g) (rule_of t g e) (λ o c.
    settled k t g o (named_settled t e (value_within k t g) (rule_of t g e) h o c))

-- ---- where a fuel settles nothing, no greater fuel does

abbrev pub IsStable : ℕ → Tables → Graph → Type 0
IsStable k t g = (e : Endpoint) → value_within (suc k) t g e ≡ value_within k t g e

stable_next : (k : ℕ) (t : Tables) (g : Graph) → IsStable k t g → IsStable (suc k) t g
stable_next k t g s e = answer_by-same t e (value_within (suc k) t g) (value_within k t g) (rule_of t g e) (λ o c. s o)

pub stable_later : (i k : ℕ) (t : Tables) (g : Graph) → IsStable k t g → IsStable (i + k) t g
stable_later zero k t g s = subst (λ j. IsStable j t g) (sym (zero-add k)) s
stable_later (suc i) k t g s = subst (λ j. IsStable j t g) (sym (suc-add i k)) (stable_next (i + k) t g (stable_later i k t g s))

stable_same : (i k : ℕ) (t : Tables) (g : Graph) → IsStable k t g → (e : Endpoint) → value_within (i + k) t g e ≡ value_within k t g e
stable_same zero k t g s e = ap (λ (j : ℕ). value_within j t g e) (zero-add k)
stable_same (suc i) k t g s e =
    ap (λ (j : ℕ). value_within j t g e) (suc-add i k) ∙ stable_later i k t g s e ∙ stable_same i k t g s e

pub stable_from : (j k : ℕ) (t : Tables) (g : Graph) → IsStable k t g → k ≤ j → (e : Endpoint) → value_within j t g e ≡ value_within k t g e
stable_from j k t g s le e =
    let sum : j ≡ (j - k) + k = omega arith in
    ap (λ (i : ℕ). value_within i t g e) sum ∙ stable_same (j - k) k t g s e

same_by_cycle : (k : ℕ) (t : Tables) (g : Graph) (e : Endpoint) → is_cycle (value_within k t g e) ≡ is_cycle (value_within (suc k) t g e) →
    value_within (suc k) t g e ≡ value_within k t g e
same_by_cycle k t g e same = by_test (is_cycle (value_within k t g e)) refl
  where
    by_test : (b : Bool) → is_cycle (value_within k t g e) ≡ b → value_within (suc k) t g e ≡ value_within k t g e
    by_test true h = is_cycle-is (value_within (suc k) t g e) (sym same ∙ h) ∙ sym (is_cycle-is (value_within k t g e) h)
    by_test false h = settled k t g e h

-- without a rule the answer is the same from the first fuel on
pub absent_value : (k : ℕ) (t : Tables) (g : Graph) (e : Endpoint) → rule_of t g e ≡ rule.Absent → value_within (suc k) t g e ≡ one_fault e code.NoEndpoint
absent_value k t g e absent = ap (answer_by t e (value_within k t g)) absent

-- where no endpoint of the graph is newly settled, no value changes
pub stable_when : (k : ℕ) (t : Tables) (g : Graph) (es : List Endpoint) → Covers t g es →
    ((e : Endpoint) → Contains es e → is_cycle (value_within (suc k) t g e) ≡ is_cycle (value_within (suc (suc k)) t g e)) → IsStable (suc k) t g
stable_when k t g es covered same e =
    elim (covered e) [
      | inl among ↦ same_by_cycle (suc k) t g e (same e among)
      | inr absent ↦ absent_value (suc k) t g e absent ∙ sym (absent_value k t g e absent)
    ]

-- ---- each fuel that changes something settles one endpoint more

abbrev unsettled : ℕ → Tables → Graph → List Endpoint → ℕ
unsettled k t g es = length (filter (λ e. is_cycle (value_within k t g e)) es)

still_open : (k : ℕ) (t : Tables) (g : Graph) (e : Endpoint) → is_cycle (value_within (suc k) t g e) ≡ true → is_cycle (value_within k t g e) ≡ true
still_open k t g e h = by_test (is_cycle (value_within k t g e)) refl
  where
    by_test : (b : Bool) → is_cycle (value_within k t g e) ≡ b → is_cycle (value_within k t g e) ≡ true
    by_test true is = is
    by_test false is = ap is_cycle (sym (settled k t g e is)) ∙ h

newly : ℕ → Tables → Graph → Endpoint → Bool
newly k t g e = is_cycle (value_within k t g e) && not (is_cycle (value_within (suc k) t g e))

no_news : (k : ℕ) (t : Tables) (g : Graph) (e : Endpoint) → newly k t g e ≡ false → is_cycle (value_within k t g e) ≡ is_cycle (value_within (suc k) t g e)
unfolding newly
no_news k t g e h = by_tests (is_cycle (value_within k t g e)) (is_cycle (value_within (suc k) t g e)) (still_open k t g e) h
  where
    by_tests : (a b : Bool) → (b ≡ true → a ≡ true) → (a && not b) ≡ false → a ≡ b
    by_tests true true up h = refl
    by_tests true false up h = h
    by_tests false true up h = up refl
    by_tests false false up h = refl

none_new : (k : ℕ) (t : Tables) (g : Graph) (es : List Endpoint) (e : Endpoint) → list_any (newly k t g) es ≡ false → Contains es e → newly k t g e ≡ false
none_new k t g es e h c = false_from_ne_true (newly k t g e) (λ new. true≢false (sym (list_any_from (newly k t g) es e c new) ∙ h))

fewer_open : (k : ℕ) (t : Tables) (g : Graph) (es : List Endpoint) → list_any (newly k t g) es ≡ true → unsettled (suc k) t g es < unsettled k t g es
unfolding newly
fewer_open k t g es h =
    let one = list_any_gives (newly k t g) es h in
    let both = and_parts (is_cycle (value_within k t g one.0)) (not (is_cycle (value_within (suc k) t g one.0))) one.2 in
    filter_fewer (λ e. is_cycle (value_within (suc k) t g e)) (λ e. is_cycle (value_within k t g e)) (still_open k t g) es one.0 one.1
    (not-true (is_cycle (value_within (suc k) t g one.0)) both.1) both.0

progress : (k : ℕ) (t : Tables) (g : Graph) (es : List Endpoint) → Covers t g es → IsStable (suc k) t g ⊎ (unsettled (suc k) t g es + k ≤ length es)
progress zero t g es covered = let most = length_filter_le (λ e. is_cycle (value_within (suc zero) t g e)) es in inr (omega (arith, most))
progress (suc k) t g es covered = by_past (progress k t g es covered) (list_any (newly (suc k) t g) es) refl
  where
    by_past : IsStable (suc k) t g ⊎ (unsettled (suc k) t g es + k ≤ length es) → (b : Bool) → list_any (newly (suc k) t g) es ≡ b →
        IsStable (suc (suc k)) t g ⊎ (unsettled (suc (suc k)) t g es + suc k ≤ length es)
    by_past (inl stable) b new = inl (stable_next (suc k) t g stable)
    by_past (inr few) true new = let fewer = fewer_open (suc k) t g es new in inr (omega (arith, fewer, few))
    by_past (inr few) false new =
        inl (stable_next (suc k) t g (stable_when k t g es covered (λ e c. no_news (suc k) t g e (none_new (suc k) t g es e new c))))

-- one more than so many settle all that can be settled
pub stable_after : (t : Tables) (g : Graph) (es : List Endpoint) → Covers t g es → IsStable (suc (length es)) t g
stable_after t g es covered =
    elim (progress (length es) t g es covered) [
      | inl stable ↦ stable
      | inr few ↦ λ e. elim (covered e) [
        | inl among ↦ settled (suc (length es)) t g e (false_from_ne_true (is_cycle (value_within (suc (length es)) t g e)) (λ open_.
            let one = filter_some (λ z. is_cycle (value_within (suc (length es)) t g z)) es e among open_ in omega (arith, one, few)))
        | inr absent ↦ absent_value (suc (length es)) t g e absent ∙ sym (absent_value (length es) t g e absent)
      ]
    ]

-- more fuel gives the same value
pub more_fuel : {t : Tables} {g : Graph} → IsSound t g → AreTables t → (k : ℕ) → enough_fuel t g ≤ k → (e : Endpoint) → value_within k t g e ≡ value_at t g e
more_fuel {t} {g} sound laws k le e =
    stable_from k (enough_fuel t g) t g (stable_after t g (endpoints t g) (covers (IsLinked-from_sound sound) laws)) le e

-- a value is what its rule gives of the values of other endpoints
pub value-rule : {t : Tables} {g : Graph} → IsSound t g → AreTables t → (e : Endpoint) → value_at t g e ≡ answer_by t e (value_at t g) (rule_of t g e)
value-rule {t} {g} sound laws e =
    let more : value_within (suc (enough_fuel t g)) t g e ≡ value_at t g e = more_fuel sound laws (suc (enough_fuel t g)) (omega arith) e in
    sym more
