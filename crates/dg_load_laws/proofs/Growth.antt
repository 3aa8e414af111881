-- No step of a load takes away what an earlier one made.
use Rattle.std.proofs.Common.{◌≡◌, ◌≢◌, ◌⊎◌, ℕ, ◌+◌, Bool, true, false, not, cond, List, [], ◌∷◌, ◌++◌, Option, Some, None, Result, Err, find, filter, Contains, nat_le, refl, sym, ap, ◌∙◌, subst, inl, append-nil}
use Rattle.std.proofs.lemmas.List.Folds.{find-append}
use Rattle.std.specs.Option.{option_or}
use Rattle.dg_base.specs.declared.ids.NodeId.{NodeId}
use Rattle.dg_base.specs.declared.ids.Label.{Label}
use Rattle.dg_base.specs.declared.ids.Kind.{Kind}
use Rattle.dg_base.specs.declared.ids.ArcRec.{ArcRec}
use Rattle.dg_base.specs.declared.ids.Endpoint.{Endpoint}
use Rattle.dg_base.specs.declared.graph.Node.{Node}
use Rattle.dg_base.specs.declared.graph.Origin.{Origin}
use Rattle.dg_base.specs.declared.graph.Origin.TheVariants as origin
use Rattle.dg_base.specs.declared.step.TxCode.{TxCode}
use Rattle.dg_base.specs.declared.step.TxCode.TheVariants as code
use Rattle.dg_base.specs.Same.{same_node}
use Rattle.dg_base.specs.Tables.{Tables}
use Rattle.dg_base.specs.Graph.{Graph, node_at, overrides, id_of, override_in, origin_at, explicit_sources}
use Rattle.dg_base.specs.Chain.{heirs}
use Rattle.dg_base.specs.Sources.{sources}
use Rattle.dg_base.specs.Sound.{max_nodes}
use Rattle.dg_base.specs.Changes.{with_node, over_node}
use Rattle.dg_base.specs.Progress.{Progress}
use Rattle.dg_base.specs.Populate.{override_all, lacking, populate_over, populate_inherited, populate_heir, populate_all, populate}
use Rattle.dg_laws.proofs.SoundParts.{Keeps, Keeps-there}
use Rattle.dg_laws.proofs.SoundNodes.{with_node-keeps}
use Rattle.dg_load_laws.proofs.Outcomes.{Leads, Leads-then, Leads-weaker}

-- what was made is still there, these making steps' nodes come after, and no arc changes
pub record Grows (more : List NodeId) (p q : Progress) : Type 0 where
  pub made : q.made ≡ p.made ++ more
  pub keeps : Keeps p.graph q.graph
  pub overs : (root original n : NodeId) → override_in p.graph root original ≡ Some n → override_in q.graph root original ≡ Some n
  pub still : q.graph.arcs ≡ p.graph.arcs

-- a plain node of another kind
abbrev pub IsElsewhere : Kind → Graph → NodeId → Type 0
IsElsewhere k g n = (to : Kind) × (origin_at g n ≡ Some (origin.Plain to)) × (to ≢ k)

-- the same, but for arcs that may be added, into plain nodes that aren't of one kind
pub record Leaves (k : Kind) (more : List NodeId) (p q : Progress) : Type 0 where
  pub made : q.made ≡ p.made ++ more
  pub keeps : Keeps p.graph q.graph
  pub overs : (root original n : NodeId) → override_in p.graph root original ≡ Some n → override_in q.graph root original ≡ Some n
  pub arcs : (a : ArcRec) → Contains p.graph.arcs a → Contains q.graph.arcs a
  pub news : (a : ArcRec) → Contains q.graph.arcs a → Contains p.graph.arcs a ⊎ IsElsewhere k p.graph a.node

pub Leaves-from : (k : Kind) {more : List NodeId} {p q : Progress} → Grows more p q → Leaves k more p q
Leaves-from k g = record {
  made = g.made;
  keeps = g.keeps;
  overs = g.overs;
  arcs = λ a c. subst (λ (as_ : List ArcRec). Contains as_ a) (sym g.still) c;
  news = λ a c. inl (subst (λ (as_ : List ArcRec). Contains as_ a) g.still c);
}

pub Leaves-grown : {k : Kind} {p q z : Progress} → Leaves k [] p q → Grows [] q z → Leaves k [] p z
Leaves-grown {k} {p} {q} {z} a b = record {
  made = b.made ∙ ap (λ ns. ns ++ []) (a.made ∙ append-nil p.made);
  keeps = record { origins = λ n there. b.keeps.origins n (Keeps-there a.keeps n there) ∙ a.keeps.origins n there };
  overs = λ r o n e. b.overs r o n (a.overs r o n e);
  arcs = λ x c. subst (λ (as_ : List ArcRec). Contains as_ x) (sym b.still) (a.arcs x c);
  news = λ x c. a.news x (subst (λ (as_ : List ArcRec). Contains as_ x) b.still c);
}

pub Grows-none : (p : Progress) → Grows [] p p
Grows-none p = record { made = sym (append-nil p.made); keeps = record { origins = λ n there. refl }; overs = λ r o n e. e; still = refl }

pub Grows-on : {p q z : Progress} {more : List NodeId} → Grows [] p q → Grows more q z → Grows more p z
Grows-on {p} {q} {z} {more} a b = record {
  made = b.made ∙ ap (λ ns. ns ++ more) (a.made ∙ append-nil p.made);
  keeps = record { origins = λ n there. b.keeps.origins n (Keeps-there a.keeps n there) ∙ a.keeps.origins n there };
  overs = λ r o n e. b.overs r o n (a.overs r o n e);
  still = b.still ∙ a.still;
}

pub Leads-on : (more : List NodeId) {p q : Progress} (r : Result Progress TxCode) → Grows [] p q → Leads (Grows more q) r → Leads (Grows more p) r
Leads-on more {p} {q} r a h = Leads-weaker (Grows more q) (Grows more p) r h (λ z b. Grows-on a b)

-- ---- a node more

found_first : (o m : Option Node) (n : NodeId) → id_of o ≡ Some n → id_of (option_or o m) ≡ Some n
found_first None m n h = let no : None ≡ Some n = h in cc
found_first (Some x) m n h = h

pub with_node-overs : (g : Graph) (x : Node) (root original n : NodeId) → override_in g root original ≡ Some n → override_in (with_node g x) root original ≡ Some n
with_node-overs g x root original n e =
    ap id_of (find-append (λ z. overrides root original z.origin) g.nodes (x ∷ []))
    ∙ found_first (find (λ z. overrides root original z.origin) g.nodes) (find (λ z. overrides root original z.origin) (x ∷ [])) n e

pub with_node-grows : (p : Progress) (x : Node) (next : ℕ) (made : List NodeId) → Grows made p (record { graph = with_node p.graph x; next = next; made = p.made ++ made })
with_node-grows p x next made = record {
  made = refl;
  keeps = with_node-keeps p.graph x;
  overs = with_node-overs p.graph x;
  still = refl;
}

over_node-grows : (p : Progress) (root n : NodeId) → Grows [] p (record { graph = with_node p.graph (over_node p.next root n); next = p.next + 1; made = p.made })
over_node-grows p root n = record {
  made = sym (append-nil p.made);
  keeps = with_node-keeps p.graph (over_node p.next root n);
  overs = with_node-overs p.graph (over_node p.next root n);
  still = refl;
}

-- ---- override nodes

pub override_all-grows : (root : NodeId) (ns : List NodeId) (p : Progress) → Leads (Grows [] p) (override_all root ns p)
override_all-grows root [] p = Grows-none p
override_all-grows root (n ∷ ns) p =
    by_test (nat_le p.next max_nodes) (override_all-grows root ns over)
  where
    over : Progress
    over = record { graph = with_node p.graph (over_node p.next root n); next = p.next + 1; made = p.made }

    by_test : (b : Bool) → Leads (Grows [] over) (override_all root ns over) → Leads (Grows [] p) (cond b (override_all root ns over) (Err code.TooManyNodes))
    by_test true rest = Leads-on [] (override_all root ns over) (over_node-grows p root n) rest
    by_test false rest = tt

populate_heir-grows : (t : Tables) (p : Progress) (i : Label) (h : NodeId) → Leads (Grows [] p) (populate_heir t p i h)
populate_heir-grows t p i h = by_node (node_at p.graph h) (explicit_sources p.graph h i)
  where
    by_origin : (w : Origin) → Leads (Grows [] p) (populate_over t p i w)
    by_origin (origin.Plain kind) = Grows-none p
    by_origin (origin.Over root original) = override_all-grows root (lacking t p.graph root (sources p.graph original i)) p

    by_node : (o : Option Node) (ss : List Endpoint) → Leads (Grows [] p) (populate_inherited t p i o ss)
    by_node None ss = Grows-none p
    by_node (Some x) [] = by_origin x.origin
    by_node (Some x) (s ∷ ss) = Grows-none p

populate_all-grows : (t : Tables) (i : Label) (hs : List NodeId) (p : Progress) → Leads (Grows [] p) (populate_all t i hs p)
populate_all-grows t i [] p = Grows-none p
populate_all-grows t i (h ∷ hs) p =
    Leads-then (Grows [] p) (Grows [] p) (populate_heir t p i h) (populate_all t i hs) (populate_heir-grows t p i h)
    (λ q a. Leads-on [] (populate_all t i hs q) a (populate_all-grows t i hs q))

pub populate-grows : (t : Tables) (p : Progress) (n : NodeId) (i : Label) → Leads (Grows [] p) (populate t p n i)
populate-grows t p n i = populate_all-grows t i (filter (λ h. not (same_node h n)) (heirs p.graph n)) p
