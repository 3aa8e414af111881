-- What holds where a load has come so far, and each way to go on by a step.
use Rattle.std.proofs.Common.{◌≡◌, ◌≢◌, ℕ, ◌+◌, ◌<◌, true, false, cond, List, [], ◌∷◌, ◌++◌, Option, Some, Ok, length, filter, Contains, IsTrue, slice_get, refl, sym, ap, ◌∙◌, subst, inl, inr, append-nil, length-append, arith}
use Rattle.std.proofs.lemmas.List.Elements.{Contains-push_cases, filter-append}
use Rattle.dg_base.specs.declared.ids.NodeId.{NodeId}
use Rattle.dg_base.specs.declared.ids.Label.{Label}
use Rattle.dg_base.specs.declared.ids.Kind.{Kind}
use Rattle.dg_base.specs.declared.ids.ArcRec.{ArcRec}
use Rattle.dg_base.specs.declared.datum.Datum.{Datum}
use Rattle.dg_base.specs.declared.graph.Origin.{Origin}
use Rattle.dg_base.specs.declared.graph.Origin.TheVariants as origin
use Rattle.dg_base.specs.declared.step.NodeRef.{NodeRef}
use Rattle.dg_base.specs.declared.step.NodeRef.{In}
use Rattle.dg_base.specs.declared.step.Step.{Step}
use Rattle.dg_base.specs.declared.step.Step.TheVariants as step
use Rattle.dg_base.specs.Role.{given, taken}
use Rattle.dg_base.specs.Tables.{Tables}
use Rattle.dg_base.specs.Graph.{has_node, origin_at}
use Rattle.dg_base.specs.Owned.{cascading_inputs}
use Rattle.dg_base.specs.Sound.{may_be_set, agree}
use Rattle.dg_base.specs.Progress.{Progress, IsReady}
use Rattle.dg_base.specs.Steps.{make_step, step_of}
use Rattle.dg_laws.proofs.Members.{Contains-none}
use Rattle.dg_laws.proofs.Nodes.{IsLinked-from_sound}
use Rattle.dg_laws.proofs.Sources.{override_in-there}
use Rattle.dg_laws.proofs.SoundParts.{IsSound-empty, Keeps-there}
use Rattle.dg_laws.proofs.SoundApplied.{step_of-after}
use Rattle.dg_load.specs.declared.draft.Bound.{Bound}
use Rattle.dg_load.specs.declared.draft.Draft.{Draft}
use Rattle.dg_load.specs.Draft.{started, new, stepped, making, made, overridden, connected, marked, bound}
use Rattle.dg_load_laws.specs.Laws.{is_making, makes_in}
use Rattle.dg_load_laws.proofs.Lists.{slice_get-last}
use Rattle.dg_load_laws.proofs.Outcomes.{Leads, Leads-then, Leads-weaker, Leads-by, begun, runs, runs-push}
use Rattle.dg_load_laws.proofs.Growth.{Grows, Leaves, Leaves-from}
use Rattle.dg_load_laws.proofs.Owning.{ArcsArePlain, Under, fed, plain-later, origin_at-there}
use Rattle.dg_load_laws.proofs.Naming.{Names, Plainly, OwnsMade, Reaches, Plainly-names, Names-later, Plainly-later, made-later, named_once}
use Rattle.dg_load_laws.proofs.Steps.{Makes, make-leads, set-grows, mark-grows, HasRoom, connect-joins}
use Rattle.dg_load_laws.proofs.Overriding.{Overrides, override-leads, names-root, names-in}

-- ---- where a load stands

pub record Stage (t : Tables) (P : Progress → Type 0) (makes : ℕ) (p : Progress) : Type 0 where
  pub ready : IsReady t p
  pub plain : ArcsArePlain p.graph
  pub count : length p.made ≡ makes
  pub made_there : (n : NodeId) → Contains p.made n → IsTrue (has_node p.graph n)
  pub facts : P p

-- its steps lead to where these facts hold, it counts its making steps, and binds names to their nodes
pub record Standing (t : Tables) (P : Progress → Type 0) (makes : ℕ) (steps : List Step) (names : List Bound) : Type 0 where
  pub leads : Leads (Stage t P makes) (runs t (Ok begun) steps)
  pub counted : makes_in steps ≡ makes
  pub made_names : (b : Bound) → Contains names b → b.node < makes

abbrev pub Holds : Tables → (Progress → Type 0) → Draft → Type 0
Holds t P d = Standing t P d.makes d.steps d.bound

-- ---- facts that stay

-- where no arc changes
abbrev pub Stands : Tables → (Progress → Type 0) → Type 0
Stands t P = (p q : Progress) (more : List NodeId) → IsReady t p → IsReady t q → Grows more p q → P p → P q

-- where arcs are added, too, though into no node of this kind
abbrev pub Persists : Tables → Kind → (Progress → Type 0) → Type 0
Persists t k P = (p q : Progress) (more : List NodeId) → IsReady t p → IsReady t q → Leaves k more p q → P p → P q

pub stands : {t : Tables} {k : Kind} (P : Progress → Type 0) → Persists t k P → Stands t P
stands {t} {k} P keep p q more a b g h = keep p q more a b (Leaves-from k g) h

pub forget : {t : Tables} (P Q : Progress → Type 0) → ((p : Progress) → IsReady t p → P p → Q p) → (d : Draft) → Holds t P d → Holds t Q d
forget {t} P Q weaker d h = record {
  leads = Leads-weaker (Stage t P d.makes) (Stage t Q d.makes) (runs t (Ok begun) d.steps) h.leads
      (λ p st. record { ready = st.ready; plain = st.plain; count = st.count; made_there = st.made_there; facts = weaker p st.ready st.facts });
  counted = h.counted;
  made_names = h.made_names;
}

-- ---- a node into which no arc goes yet

pub record IsFresh (p : Progress) (k : ℕ) (kind : Kind) : Type 0 where
  pub is : Plainly p k kind
  pub no_arcs : (a : ArcRec) → Contains p.graph.arcs a → a.node ≢ is.node

abbrev pub Fresh : (Progress → Type 0) → ℕ → Kind → Progress → Type 0
Fresh P k kind p = P p × IsFresh p k kind

abbrev pub Also : (Progress → Type 0) → ℕ → Kind → Progress → Type 0
Also P k kind p = P p × Plainly p k kind

pub Fresh-stands : {t : Tables} (P : Progress → Type 0) → Stands t P → (k : ℕ) (kind : Kind) → Stands t (Fresh P k kind)
Fresh-stands P keep k kind p q more a b g h = (
  keep p q more a b g h.0,
  record {
    is = Plainly-later a b (Leaves-from kind g) h.1.is;
    no_arcs = λ c d. h.1.no_arcs c (subst (λ (as_ : List ArcRec). Contains as_ c) g.still d);
  },
)

same_plain : (o : Option Origin) (k m : Kind) → o ≡ Some (origin.Plain k) → o ≡ Some (origin.Plain m) → k ≡ m
same_plain o k m a b = let both : Some (origin.Plain k) ≡ Some (origin.Plain m) = sym a ∙ b in cc

pub Fresh-persists : {t : Tables} (P : Progress → Type 0) (k : ℕ) (kind : Kind) → Persists t kind P → Persists t kind (Fresh P k kind)
Fresh-persists P k kind keep p q more a b g h = (
  keep p q more a b g h.0,
  record {
    is = Plainly-later a b g h.1.is;
    no_arcs = λ c d is.
        elim (g.news c d) [
          | inl old ↦ h.1.no_arcs c old is
          | inr new ↦ new.2 (same_plain (origin_at p.graph c.node) new.0 kind new.1 (ap (origin_at p.graph) is ∙ h.1.is.plain))
        ];
  },
)

pub Also-persists : {t : Tables} (P : Progress → Type 0) (k : ℕ) (kind other : Kind) → Persists t other P → Persists t other (Also P k kind)
Also-persists P k kind other keep p q more a b g h = (keep p q more a b g h.0, Plainly-later a b g h.1)

-- ---- the begin

pub start-holds : (t : Tables) (names : List (List ℕ)) → Holds t (λ p. Unit {0}) (started names)
start-holds t names = record {
  leads = record { ready = record { sound = IsSound-empty t; below = refl; some = omega arith }; plain = λ a c. Contains-none a c; count = refl; made_there = λ n c. Contains-none n c; facts = tt };
  counted = refl;
  made_names = λ b c. Contains-none b c;
}

-- ---- steps

makes_in-push : (ss : List Step) (s : Step) → makes_in (ss ++ s ∷ []) ≡ makes_in ss + makes_in (s ∷ [])
makes_in-push ss s = ap length (filter-append is_making ss (s ∷ [])) ∙ length-append (filter is_making ss) (filter is_making (s ∷ []))

no_more : (ss : List Step) (s : Step) → is_making s ≡ false → makes_in (ss ++ s ∷ []) ≡ makes_in ss
no_more ss s other =
    let none : makes_in (s ∷ []) ≡ 0 = ap (λ b. length (cond b (s ∷ []) [])) other in
    let sum = makes_in-push ss s in
    omega (arith, none, sum)

one_more : (ss : List Step) (s : Step) → is_making s ≡ true → makes_in (ss ++ s ∷ []) ≡ makes_in ss + 1
one_more ss s is =
    let one : makes_in (s ∷ []) ≡ 1 = ap (λ b. length (cond b (s ∷ []) [])) is in
    let sum = makes_in-push ss s in
    omega (arith, one, sum)

-- one that makes no node
pub stepped-holds : {t : Tables} (k : Kind) (P Q : Progress → Type 0) (d : Draft) (s : Step) → is_making s ≡ false →
    ((p : Progress) → IsReady t p → P p → Leads (λ q. Leaves k [] p q × (IsReady t q → Q q)) (step_of t p s)) → Holds t P d → Holds t Q (stepped s d)
stepped-holds {t} k P Q d s other fine h = record {
  leads = subst (Leads (Stage t Q d.makes)) (sym (runs-push t (Ok begun) d.steps s)) (
      Leads-then (Stage t P d.makes) (Stage t Q d.makes) (runs t (Ok begun) d.steps) (λ p. step_of t p s) h.leads
      (λ p st. Leads-by (λ q. Leaves k [] p q × (IsReady t q → Q q)) (Stage t Q d.makes) (step_of t p s) (fine p st.ready st.facts) (λ q e g.
      let after = step_of-after st.ready s e in
      record {
        ready = after.ready;
        plain = plain-later st.ready after.ready g.0 st.plain;
        count = ap length (g.0.made ∙ append-nil p.made) ∙ st.count;
        made_there = λ n c. Keeps-there g.0.keeps n (st.made_there n (subst (λ (ns : List NodeId). Contains ns n) (g.0.made ∙ append-nil p.made) c));
        facts = g.1 after.ready;
      })));
  counted = no_more d.steps s other ∙ h.counted;
  made_names = h.made_names;
}

-- one that makes a node
pub making-holds : {t : Tables} (k : Kind) (P Q : Progress → Type 0) (d : Draft) (s : Step) → is_making s ≡ true →
    ((p : Progress) → IsReady t p → ArcsArePlain p.graph → length p.made ≡ d.makes → P p → Leads (λ q. Leaves k (record { 0 = p.next } ∷ []) p q × (IsReady t q → Q q × IsTrue (has_node q.graph (record { 0 = p.next })))) (step_of t p s)) →
    Holds t P d → Holds t Q (making s d)
making-holds {t} k P Q d s is fine h = record {
  leads = subst (Leads (Stage t Q (d.makes + 1))) (sym (runs-push t (Ok begun) d.steps s)) (
      Leads-then (Stage t P d.makes) (Stage t Q (d.makes + 1)) (runs t (Ok begun) d.steps) (λ p. step_of t p s) h.leads
      (λ p st. Leads-by (λ q. Leaves k (record { 0 = p.next } ∷ []) p q × (IsReady t q → Q q × IsTrue (has_node q.graph (record { 0 = p.next })))) (Stage t Q (d.makes + 1)) (step_of t p s) (fine p st.ready st.plain st.count st.facts) (λ q e g.
      let after = step_of-after st.ready s e in
      record {
        ready = after.ready;
        plain = plain-later st.ready after.ready g.0 st.plain;
        count = ap length g.0.made ∙ length-append p.made (record { 0 = p.next } ∷ []) ∙ ap (λ c. c + 1) st.count;
        made_there = λ n c.
            elim (Contains-push_cases p.made (record { 0 = p.next }) n (subst (λ (ns : List NodeId). Contains ns n) g.0.made c)) [
              | inl old ↦ Keeps-there g.0.keeps n (st.made_there n old)
              | inr last ↦ subst (λ (m : NodeId). IsTrue (has_node q.graph m)) last (g.1 after.ready).1
            ];
        facts = (g.1 after.ready).0;
      })));
  counted = one_more d.steps s is ∙ ap (λ c. c + 1) h.counted;
  made_names = λ b c. let lt = h.made_names b c in omega (arith, lt);
}

-- ---- Set, Mark

pub set-holds : {t : Tables} {P : Progress → Type 0} → Stands t P → (d : Draft) (r : NodeRef) (kind : Kind) (label : Label) (v : Datum) → ((p : Progress) → IsReady t p → P p → Names p r kind) →
    may_be_set (t.is_open kind) label v (t.role kind label) ≡ true → Holds t P d → Holds t P (stepped (step.Set r label v) d)
set-holds {t} {P} keep d r kind label v named fits h =
    stepped-holds kind P P d (step.Set r label v) refl
    (λ p ready facts. Leads-weaker (Grows [] p) (λ q. Leaves kind [] p q × (IsReady t q → P q)) (step_of t p (step.Set r label v)) (set-grows t (named p ready facts) label v fits)
    (λ q g. (Leaves-from kind g, λ b. keep p q [] ready b g facts))) h

pub mark-holds : {t : Tables} {P : Progress → Type 0} → Stands t P → (d : Draft) (k : ℕ) (kind : Kind) → ((p : Progress) → IsReady t p → P p → Names p (new k) kind) →
    Holds t P d → Holds t P (marked k d)
mark-holds {t} {P} keep d k kind named h =
    stepped-holds kind P P d (step.Mark (new k) true) refl
    (λ p ready facts. Leads-weaker (Grows [] p) (λ q. Leaves kind [] p q × (IsReady t q → P q)) (step_of t p (step.Mark (new k) true)) (mark-grows t (named p ready facts) true)
    (λ q g. (Leaves-from kind g, λ b. keep p q [] ready b g facts))) h

-- ---- Connect

-- a node that was made, with an output whose type an input takes
pub record Gives (t : Tables) (p : Progress) (source : ℕ) (output : Label) (to : Kind) (input : Label) : Type 0 where
  pub from : Kind
  pub names : Names p (new source) from
  pub fits : agree (given (t.role from output)) (taken (t.role to input)) ≡ true

-- the facts after it need not be those before it: a fresh node isn't fresh any more
pub connect-holds : {t : Tables} (k : Kind) (P Q : Progress → Type 0) → ((p q : Progress) → IsReady t p → IsReady t q → Leaves k [] p q → P p → Q q) →
    (d : Draft) (source : ℕ) (output : Label) (target : ℕ) (to : Kind) (input : Label) → ((p : Progress) → IsReady t p → P p → Gives t p source output to input) →
    (at : (p : Progress) → P p → Plainly p target to) → to ≢ k → ((p : Progress) → (h : P p) → HasRoom p.graph (at p h).node input (t.role to input)) → Holds t P d →
    Holds t (λ q. Q q × (Contains (cascading_inputs t (Some to)) input → OwnsMade t q target source)) (connected source output target input d)
connect-holds {t} k P Q keep d source output target to input gives at other room h =
    stepped-holds k P R d s refl (λ p ready facts.
    let g = gives p ready facts in
    let n = g.names in
    let m = at p facts in
    let names = Plainly-names ready m in
    Leads-weaker (λ q. Leaves k [] p q × Contains q.graph.arcs (record { src = record { node = n.node; label = output }; node = m.node; input = input })) (λ q. Leaves k [] p q × (IsReady t q → R q)) (step_of t p s)
    (connect-joins t k n names output input g.fits (room p facts) (to, m.plain, other))
    (λ q j. (
      j.0,
      λ b. (
        keep p q ready b j.0 facts,
        λ cascade. record {
          outer = m.node;
          at_outer = made-later j.0 target m.node m.at;
          inner = n.node;
          at_inner = made-later j.0 source n.node n.at;
          owns = fed m.node n.node output input j.1 (subst (λ (o : Option Kind). Contains (cascading_inputs t o) input) (sym (Names-later ready b j.0 names).is) cascade);
        },
      ),
    ))) h
  where
    s : Step
    s = step.Connect (new source) output (new target) input

    R : Progress → Type 0
    R q = Q q × (Contains (cascading_inputs t (Some to)) input → OwnsMade t q target source)

-- ---- Make

at_last : (p q : Progress) (n : NodeId) (makes : ℕ) → length p.made ≡ makes → q.made ≡ p.made ++ n ∷ [] → slice_get q.made makes ≡ Some n
at_last p q n makes count e = ap (slice_get q.made) (sym count) ∙ ap (λ ns. slice_get ns (length p.made)) e ∙ slice_get-last p.made n

pub made-holds : {t : Tables} {P : Progress → Type 0} → Stands t P → (d : Draft) (kind : Kind) → Holds t P d → Holds t (Fresh P d.makes kind) (made kind d)
made-holds {t} {P} keep d kind h =
    making-holds kind P (Fresh P d.makes kind) d (step.Make kind) refl (λ p ready plain count facts.
    Leads-weaker (Makes p kind) (λ q. Leaves kind (record { 0 = p.next } ∷ []) p q × (IsReady t q → Fresh P d.makes kind q × IsTrue (has_node q.graph (record { 0 = p.next })))) (make_step p kind) (make-leads ready kind)
    (λ q m. (
      Leaves-from kind m.grows,
      λ b. (
        (
          keep p q (record { 0 = p.next } ∷ []) ready b m.grows facts,
          record {
            is = record { node = record { 0 = p.next }; at = at_last p q (record { 0 = p.next }) d.makes count m.grows.made; plain = m.at };
            no_arcs = m.no_arcs;
          },
        ),
        origin_at-there q.graph (record { 0 = p.next }) (origin.Plain kind) m.at,
      ),
    ))) h

-- ---- Override

-- what is named from then on
pub record Overridden (t : Tables) (C : NodeRef → Type 0) (over : ℕ) (kind inner : Kind) (q : Progress) : Type 0 where
  pub root : Names q (new over) kind
  pub reaches : (r : NodeRef) → C r → Reaches t inner q over (In (new over) r)

pub override-holds : {t : Tables} {P : Progress → Type 0} → Stands t P → (C : NodeRef → Type 0) (d : Draft) (k : ℕ) (kind inner : Kind) → ((p : Progress) → P p → Plainly p k kind) →
    ((p : Progress) → P p → (r : NodeRef) → C r → Reaches t inner p k r) → Holds t P d → Holds t (λ q. P q × Overridden t C d.makes kind inner q) (overridden k d)
override-holds {t} {P} keep C d k kind inner at reached h =
    making-holds kind P Q d (step.Override (new k)) refl (λ p ready plain count facts.
    let n = Plainly-names ready (at p facts) in
    Leads-weaker (Overrides t p n.node) (λ q. Leaves kind (record { 0 = p.next } ∷ []) p q × (IsReady t q → Q q × IsTrue (has_node q.graph (record { 0 = p.next })))) (step_of t p (step.Override (new k))) (override-leads t ready n)
    (λ q o. (
      Leaves-from kind o.grows,
      λ b.
          let g = Leaves-from kind o.grows in
          let e = at_last p q (record { 0 = p.next }) d.makes count o.grows.made in (
            (
              keep p q (record { 0 = p.next } ∷ []) ready b o.grows facts,
              record {
                root = names-root t n.node (record { 0 = p.next }) ready b plain g o.covers o.first (new d.makes) kind e n.there n.is;
                reaches = λ r c.
                    let w = reached p facts r c in
                    names-in t n.node (record { 0 = p.next }) ready b plain g o.covers o.first d.makes r inner e w.to
                    (subst (λ (z : NodeId). Under t p.graph z w.to.node) (named_once (slice_get p.made k) w.from n.node w.at_from n.at) w.under);
              },
            ),
            override_in-there (IsLinked-from_sound b.sound) (record { 0 = p.next }) n.node (record { 0 = p.next }) o.first,
          ),
    ))) h
  where
    Q : Progress → Type 0
    Q q = P q × Overridden t C d.makes kind inner q

-- ---- names

pub bound-holds : {t : Tables} {P : Progress → Type 0} (name : List ℕ) (k : ℕ) (d : Draft) → k < d.makes → Holds t P d → Holds t P (bound name k d)
bound-holds name k d lt h = record {
  leads = h.leads;
  counted = h.counted;
  made_names = λ b c.
      elim (Contains-push_cases d.bound (record { name = name; node = k }) b c) [
        | inl old ↦ h.made_names b old
        | inr new ↦ let is : k ≡ b.node = ap (λ (z : Bound). z.node) new in omega (arith, is, lt)
      ];
}
