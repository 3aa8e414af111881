-- Rules where the same is read, and graphs of which the same is read.
use Rattle.std.proofs.Common.{◌≡◌, true, cond, List, [], ◌∷◌, Option, Some, None, map, Contains, refl, sym, ap, ◌∙◌}
use Rattle.dg_base.specs.declared.ids.NodeId.{NodeId}
use Rattle.dg_base.specs.declared.ids.Label.{Label}
use Rattle.dg_base.specs.declared.ids.Kind.{Kind}
use Rattle.dg_base.specs.declared.ids.Endpoint.{Endpoint}
use Rattle.dg_base.specs.declared.datum.Datum.{Datum}
use Rattle.dg_base.specs.declared.graph.Node.{Node}
use Rattle.dg_base.specs.declared.graph.Origin.{Origin}
use Rattle.dg_base.specs.declared.graph.Origin.TheVariants as origin
use Rattle.dg_base.specs.declared.rule.ArgRule.{ArgRule}
use Rattle.dg_base.specs.declared.rule.ArgRule.TheVariants as arg_rule
use Rattle.dg_base.specs.declared.rule.Rule.TheVariants as rule
use Rattle.dg_base.specs.declared.schema.Role.{Role}
use Rattle.dg_base.specs.declared.schema.Role.TheVariants as role
use Rattle.dg_base.specs.declared.schema.ArgSpec.{ArgSpec}
use Rattle.dg_base.specs.declared.schema.ArgSpec.TheVariants as arg
use Rattle.dg_base.specs.Role.{is_output}
use Rattle.dg_base.specs.Tables.{Tables}
use Rattle.dg_base.specs.Graph.{Graph, override_in, explicit_sources}
use Rattle.dg_base.specs.Chain.{chain, kind_along, kind_of}
use Rattle.dg_base.specs.Sources.{moved_to, replaced, inherited_along, explicit_or, sources_along, sources}
use Rattle.dg_base.specs.Rule.{open_values, is_defective, arg_rule_of, property_rule, open_rule, rule_by, rule_along, rule_of}
use Rattle.dg_laws.proofs.Members.{Contains-head, Contains-tail, map_same}
use Rattle.dg_touch.specs.Reads.{WhereNone, SameInherited, SameAlong, ReadsSame}

-- ---- by the role of the label

abbrev pub SameArg : Graph → Graph → NodeId → ArgSpec → Type 0
SameArg g h n (arg.Own l) = Unit {0}
SameArg g h n (arg.Input i) = sources g n i ≡ sources h n i
SameArg g h n arg.Open = open_values (chain g n) ≡ open_values (chain h n)

-- the same is read of two graphs at an endpoint of a kind, whose label has this role
abbrev pub SameByRole : Tables → Graph → Graph → Kind → Endpoint → Role → Type 0
SameByRole t g h k e role.Nothing = open_rule t k (chain g e.node) e.label ≡ open_rule t k (chain h e.node) e.label
SameByRole t g h k e (role.Property ty) = (d : Datum) → property_rule (chain g e.node) e.label d ≡ property_rule (chain h e.node) e.label d
SameByRole t g h k e (role.Output ty cached) =
    (is_defective (chain g e.node) ≡ is_defective (chain h e.node)) × ((a : ArgSpec) → Contains (t.args k e.label) a → SameArg g h e.node a)
SameByRole t g h k e (role.Input ty array cascade substitute) = Unit {0}

arg_rule-same : (g h : Graph) (n : NodeId) (a : ArgSpec) → SameArg g h n a → arg_rule_of g n (chain g n) a ≡ arg_rule_of h n (chain h n) a
arg_rule-same g h n (arg.Own l) same = refl
arg_rule-same g h n (arg.Input i) same = ap (arg_rule.Input i) same
arg_rule-same g h n arg.Open same = ap arg_rule.Open same

rule_by-same : (t : Tables) (g h : Graph) (k : Kind) (e : Endpoint) (r : Role) → SameByRole t g h k e r →
    rule_by t g k (chain g e.node) e r ≡ rule_by t h k (chain h e.node) e r
rule_by-same t g h k e role.Nothing same = same
rule_by-same t g h k e (role.Property ty) same = same (t.preset k e.label)
rule_by-same t g h k e (role.Output ty cached) same =
    ap (λ b. cond b rule.Defective (rule.Call k e.label (map (arg_rule_of g e.node (chain g e.node)) (t.args k e.label)))) same.0
    ∙ ap (λ (as_ : List ArgRule). cond (is_defective (chain h e.node)) rule.Defective (rule.Call k e.label as_)) (
    map_same (arg_rule_of g e.node (chain g e.node)) (arg_rule_of h e.node (chain h e.node)) (t.args k e.label) (λ a c.
    arg_rule-same g h e.node a (same.1 a c)))
rule_by-same t g h k e (role.Input ty array cascade substitute) same = refl

-- the same kind, and the same by the label's role, give the same rule
pub rule_of-same : (t : Tables) (g h : Graph) (e : Endpoint) → kind_of g e.node ≡ kind_of h e.node →
    ((k : Kind) → kind_of g e.node ≡ Some k → SameByRole t g h k e (t.role k e.label)) → rule_of t g e ≡ rule_of t h e
rule_of-same t g h e kinds reads = by_kind (kind_of g e.node) refl
  where
    by_kind : (o : Option Kind) → kind_of g e.node ≡ o → rule_of t g e ≡ rule_of t h e
    by_kind None is = ap (rule_along t g (chain g e.node) e) is ∙ sym (ap (rule_along t h (chain h e.node) e) (sym kinds ∙ is))
    by_kind (Some k) is =
        ap (rule_along t g (chain g e.node) e) is
        ∙ rule_by-same t g h k e (t.role k e.label) (reads k is)
        ∙ sym (ap (rule_along t h (chain h e.node) e) (sym kinds ∙ is))

-- ---- by what is read along chains

inherited-read : (g h : Graph) (w : Origin) (as_ bs : List Endpoint) (read_above : Type 0) → SameInherited g h w as_ read_above → (read_above → as_ ≡ bs) →
    inherited_along g w as_ ≡ inherited_along h w bs
inherited-read g h (origin.Plain kind) as_ bs read_above same above = refl
inherited-read g h (origin.Over root original) as_ bs read_above same above =
    map_same (replaced g root) (replaced h root) as_ (λ s c. ap (moved_to s) (same.0 s c)) ∙ ap (map (replaced h root)) (above same.1)

pub sources_along-read : (g h : Graph) (xs : List Node) (i : Label) → SameAlong g h xs i → sources_along g xs i ≡ sources_along h xs i
sources_along-read g h [] i same = refl
sources_along-read g h (x ∷ xs) i same =
    by_own (explicit_sources g x.id i) same.1 (sources_along-read g h xs i)
    ∙ ap (λ (z : List Endpoint). explicit_or z (inherited_along h x.origin (sources_along h xs i))) same.0
  where
    by_own : (es : List Endpoint) → WhereNone es (SameInherited g h x.origin (sources_along g xs i) (SameAlong g h xs i)) →
        (SameAlong g h xs i → sources_along g xs i ≡ sources_along h xs i) →
        explicit_or es (inherited_along g x.origin (sources_along g xs i)) ≡ explicit_or es (inherited_along h x.origin (sources_along h xs i))
    by_own [] read above = inherited-read g h x.origin (sources_along g xs i) (sources_along h xs i) (SameAlong g h xs i) read above
    by_own (s ∷ ss) read above = refl

pub sources-read : (g h : Graph) (n : NodeId) (i : Label) → chain g n ≡ chain h n → SameAlong g h (chain g n) i → sources g n i ≡ sources h n i
sources-read g h n i chains same = sources_along-read g h (chain g n) i same ∙ ap (λ (xs : List Node). sources_along h xs i) chains

-- a rule is a function of what it reads
pub rule_of-read : (t : Tables) (g h : Graph) (e : Endpoint) → ReadsSame t g h e → rule_of t g e ≡ rule_of t h e
rule_of-read t g h e same = rule_of-same t g h e (ap kind_along same.chains) (λ k is. by_role k is (t.role k e.label) refl)
  where
    by_arg : (k : Kind) → kind_of g e.node ≡ Some k → is_output (t.role k e.label) ≡ true → (a : ArgSpec) → Contains (t.args k e.label) a → SameArg g h e.node a
    by_arg k is output (arg.Own l) c = tt
    by_arg k is output (arg.Input i) c = sources-read g h e.node i same.chains (same.sources i (record { kind = k; is = is; output = output; arg = c }))
    by_arg k is output arg.Open c = ap open_values same.chains

    by_role : (k : Kind) → kind_of g e.node ≡ Some k → (r : Role) → t.role k e.label ≡ r → SameByRole t g h k e r
    by_role k is role.Nothing at = ap (λ (xs : List Node). open_rule t k xs e.label) same.chains
    by_role k is (role.Property ty) at = λ d. ap (λ (xs : List Node). property_rule xs e.label d) same.chains
    by_role k is (role.Output ty cached) at = (ap is_defective same.chains, by_arg k is (ap is_output at))
    by_role k is (role.Input ty array cascade substitute) at = tt

-- where the explicit sources at each node of a chain stay, and every override node does, the same is read
pub same_along-overs : (g h : Graph) (xs : List Node) (i : Label) → ((x : Node) → Contains xs x → explicit_sources g x.id i ≡ explicit_sources h x.id i) →
    ((root original : NodeId) → override_in g root original ≡ override_in h root original) → SameAlong g h xs i
same_along-overs g h [] i explicit overs = tt
same_along-overs g h (x ∷ xs) i explicit overs =
    (explicit x (Contains-head x xs), by_own (explicit_sources g x.id i) (same_along-overs g h xs i (λ y c. explicit y (Contains-tail x xs y c)) overs))
  where
    by_origin : (w : Origin) → SameAlong g h xs i → SameInherited g h w (sources_along g xs i) (SameAlong g h xs i)
    by_origin (origin.Plain kind) above = tt
    by_origin (origin.Over root original) above = (λ s c. overs root s.node, above)

    by_own : (es : List Endpoint) → SameAlong g h xs i → WhereNone es (SameInherited g h x.origin (sources_along g xs i) (SameAlong g h xs i))
    by_own [] above = by_origin x.origin above
    by_own (s ∷ ss) above = tt
