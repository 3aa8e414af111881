-- The value of an endpoint by plain evaluation: every dependency is evaluated afresh. Fuel bounds
-- the depth, and what isn't settled when it is used up is a cycle.
use Rattle.std.specs.Prelude.{ℕ, zero, suc, List, [], ◌∷◌, Bool, true, false, cond, not, ◌&&◌, map, filter, flat_map, take, length, nat_le}
use Rattle.std.specs.List.{list_any}
use Rattle.dg_base.specs.declared.ids.Label.{Label}
use Rattle.dg_base.specs.declared.ids.Kind.{Kind}
use Rattle.dg_base.specs.declared.ids.Endpoint.{Endpoint}
use Rattle.dg_base.specs.declared.datum.Datum.{Datum}
use Rattle.dg_base.specs.declared.answer.Answer.{Answer}
use Rattle.dg_base.specs.declared.answer.Answer.TheVariants as answer
use Rattle.dg_base.specs.declared.answer.Fault.{Fault}
use Rattle.dg_base.specs.declared.answer.FaultCode.{FaultCode}
use Rattle.dg_base.specs.declared.answer.FaultCode.TheVariants as code
use Rattle.dg_base.specs.declared.rule.ArgRule.{ArgRule}
use Rattle.dg_base.specs.declared.rule.ArgRule.TheVariants as arg_rule
use Rattle.dg_base.specs.declared.rule.Rule.{Rule}
use Rattle.dg_base.specs.declared.rule.Rule.TheVariants as rule
use Rattle.dg_base.specs.declared.schema.Role.{Role}
use Rattle.dg_base.specs.declared.schema.Role.TheVariants as role
use Rattle.dg_base.specs.declared.schema.ArgVal.{ArgVal}
use Rattle.dg_base.specs.declared.schema.ArgVal.TheVariants as arg_val
use Rattle.dg_base.specs.declared.schema.Made.{Made}
use Rattle.dg_base.specs.declared.schema.Made.TheVariants as made
use Rattle.dg_base.specs.Weight.{weight}
use Rattle.dg_base.specs.Same.{same_fault}
use Rattle.dg_base.specs.Tables.{Tables}
use Rattle.dg_base.specs.Graph.{Graph}
use Rattle.dg_base.specs.Rule.{rule_of, named_by_args, endpoints}

-- a produced value may weigh so much
abbrev pub max_weight : ℕ
max_weight = 16777216

-- so many faults are kept
abbrev pub max_faults : ℕ
max_faults = 64

-- a good answer
abbrev pub good : Datum → Answer
good d = answer.Good d

-- one fault alone
abbrev pub one_fault : Endpoint → FaultCode → Answer
one_fault e c = answer.Bad (record { at = e; code = c } ∷ [])

abbrev pub is_cycle : Answer → Bool
is_cycle answer.Cycle = true
is_cycle _ = false

abbrev pub is_bad : Answer → Bool
is_bad (answer.Bad fs) = true
is_bad _ = false

abbrev pub faults_of : Answer → List Fault
faults_of (answer.Bad fs) = fs
faults_of _ = []

-- the first of equal faults is kept
abbrev pub distinct_faults : List Fault → List Fault
distinct_faults [] = []
distinct_faults (f ∷ fs) = f ∷ filter (λ h. not (same_fault f h)) (distinct_faults fs)

-- an argument of a single input: nothing without a source, and the substitute for a bad one
abbrev pub single_value : Bool → Datum → List Answer → ArgVal
single_value has_substitute substitute [] = arg_val.Nil
single_value has_substitute substitute (a ∷ as_) = cond (has_substitute && is_bad a) (arg_val.Sub substitute) (arg_val.One a)

abbrev pub input_value : Role → Datum → List Answer → ArgVal
input_value (role.Input ty array cascade has_substitute) substitute as_ =
    cond array (arg_val.Many as_) (single_value has_substitute substitute as_)
input_value _ substitute as_ = arg_val.Nil

abbrev pub arg_value : Tables → Kind → (Endpoint → Answer) → ArgRule → ArgVal
arg_value t k value (arg_rule.Own e) = arg_val.One (value e)
arg_value t k value (arg_rule.Input i ss) = input_value (t.role k i) (t.substitute k i) (map value ss)
arg_value t k value (arg_rule.Open ps) = arg_val.Open ps

abbrev pub faults_of_arg : ArgVal → List Fault
faults_of_arg (arg_val.One a) = faults_of a
faults_of_arg (arg_val.Many as_) = flat_map faults_of as_
faults_of_arg _ = []

abbrev pub faults_of_args : List ArgVal → List Fault
faults_of_args args = flat_map faults_of_arg args

-- a good value as the outcome of a production
abbrev pub made_good : Datum → Made
made_good d = made.Good d

-- what a production gives, as an answer
abbrev pub answer_of : Endpoint → Made → Answer
answer_of e (made.Good d) = cond (nat_le (weight d) max_weight) (good d) (one_fault e code.TooLong)
answer_of e (made.Fault c) = one_fault e c

-- the faults of the arguments come first
abbrev pub faulted_or : List Fault → Answer → Answer
faulted_or [] other = other
faulted_or (f ∷ fs) other = answer.Bad (take max_faults (distinct_faults (f ∷ fs)))

abbrev pub produced : Tables → Endpoint → Kind → Label → List ArgVal → Answer
produced t e k l args = faulted_or (faults_of_args args) (answer_of e (t.produce k l args))

-- a call's answer, where `value` gives the answers of other endpoints
abbrev pub called_by : Tables → Endpoint → Kind → Label → (Endpoint → Answer) → List ArgRule → Answer
called_by t e k l value args =
    cond (list_any is_cycle (map value (named_by_args args))) answer.Cycle (produced t e k l (map (arg_value t k value) args))

-- a rule's answer likewise
abbrev pub answer_by : Tables → Endpoint → (Endpoint → Answer) → Rule → Answer
answer_by t e value rule.Absent = one_fault e code.NoEndpoint
answer_by t e value rule.Defective = one_fault e code.Defective
answer_by t e value (rule.Own d) = good d
answer_by t e value (rule.From o) = value o
answer_by t e value (rule.Default d) = good d
answer_by t e value (rule.Call k l args) = called_by t e k l value args

-- how many productions an answer takes: one for a call, where no dependency is a cycle and no argument
-- stays bad
abbrev pub one_without : List Fault → ℕ
one_without [] = 1
one_without (f ∷ fs) = 0

abbrev pub productions_of_call : Tables → Kind → (Endpoint → Answer) → List ArgRule → ℕ
productions_of_call t k value args =
    cond (list_any is_cycle (map value (named_by_args args))) 0 (one_without (faults_of_args (map (arg_value t k value) args)))

abbrev pub productions_by : Tables → (Endpoint → Answer) → Rule → ℕ
productions_by t value (rule.Call k l args) = productions_of_call t k value args
productions_by t value _ = 0

abbrev pub value_within : ℕ → Tables → Graph → Endpoint → Answer
value_within zero t g e = answer.Cycle
value_within (suc k) t g e = answer_by t e (value_within k t g) (rule_of t g e)

-- one more than the number of endpoints: a longer way along dependencies meets one of them twice
abbrev pub enough_fuel : Tables → Graph → ℕ
enough_fuel t g = suc (length (endpoints t g))

abbrev pub value_at : Tables → Graph → Endpoint → Answer
value_at t g e = value_within (enough_fuel t g) t g e
