-- What references name, and what stands below a node: later too.
use Rattle.std.proofs.Common.{◌≡◌, ℕ, cond, List, Option, Some, None, IsTrue, slice_get, refl, sym, ap, ◌∙◌, subst}
use Rattle.std.proofs.lemmas.Option.{slice_get_within}
use Rattle.dg_base.specs.declared.ids.NodeId.{NodeId}
use Rattle.dg_base.specs.declared.ids.Kind.{Kind}
use Rattle.dg_base.specs.declared.graph.Origin.TheVariants as origin
use Rattle.dg_base.specs.declared.step.NodeRef.{NodeRef, Id, New, In', Row_of-NodeRef, end_of-NodeRef, more_of-NodeRef}
use Rattle.dg_base.specs.declared.step.NodeRef.{In}
use Rattle.dg_base.specs.declared.step.NodeRef.TheBlock.{hidden-the_row-NodeRef-0}
use denote.Hole.Carrier.{hidden}
use Rattle.dg_base.specs.Tables.{Tables}
use Rattle.dg_base.specs.Graph.{has_node, origin_at}
use Rattle.dg_base.specs.Chain.{kind_of}
use Rattle.dg_base.specs.Progress.{Progress, IsReady}
use Rattle.dg_base.specs.Steps.{there_if, override_named, id_named, id_inside, node_named}
use Rattle.dg_laws.proofs.Nodes.{IsLinked-from_sound}
use Rattle.dg_laws.proofs.Chains.{kind-plain}
use Rattle.dg_laws.proofs.SoundParts.{Keeps-there, kind_of-kept}
use Rattle.dg_load.specs.Draft.{new}
use Rattle.dg_load_laws.proofs.Lists.{slice_get-more}
use Rattle.dg_load_laws.proofs.Growth.{Leaves}
use Rattle.dg_load_laws.proofs.Owning.{Under, Owns, Under-on, Under-later, Owns-later, itself, below, origin_at-is, origin_at-there}

-- ---- what names what

-- a reference to a node of a kind
pub record Names (p : Progress) (r : NodeRef) (kind : Kind) : Type 0 where
  pub node : NodeId
  pub at : id_named p r ≡ Some node
  pub there : IsTrue (has_node p.graph node)
  pub is : kind_of p.graph node ≡ Some kind

-- the k-th node that was made is a plain one of a kind
pub record Plainly (p : Progress) (k : ℕ) (kind : Kind) : Type 0 where
  pub node : NodeId
  pub at : slice_get p.made k ≡ Some node
  pub plain : origin_at p.graph node ≡ Some (origin.Plain kind)

-- a node that was made owns another
pub record OwnsMade (t : Tables) (p : Progress) (k m : ℕ) : Type 0 where
  pub outer : NodeId
  pub at_outer : slice_get p.made k ≡ Some outer
  pub inner : NodeId
  pub at_inner : slice_get p.made m ≡ Some inner
  pub owns : Owns t p.graph outer inner

-- a reference to a node of a kind below a node that was made
pub record Reaches (t : Tables) (kind : Kind) (p : Progress) (k : ℕ) (r : NodeRef) : Type 0 where
  pub from : NodeId
  pub at_from : slice_get p.made k ≡ Some from
  pub to : Names p r kind
  pub under : Under t p.graph from to.node

abbrev pub Plainly-names : {t : Tables} {p : Progress} {k : ℕ} {kind : Kind} → IsReady t p → Plainly p k kind → Names p (new k) kind
Plainly-names {t} {p} {k} {kind} r n =
    let x = origin_at-is p.graph n.node (origin.Plain kind) n.plain in
    record {
      node = n.node;
      at = n.at;
      there = origin_at-there p.graph n.node (origin.Plain kind) n.plain;
      is = kind-plain (IsLinked-from_sound r.sound) n.node x.0 kind x.1 x.2;
    }

pub node_named-is : {p : Progress} {r : NodeRef} {kind : Kind} → (n : Names p r kind) → node_named p r ≡ Some n.node
node_named-is {p} {r} n = ap (there_if p.graph) n.at ∙ ap (λ b. cond b (Some n.node) None) n.there

-- ---- ways in one piece

pub named_once : (o : Option NodeId) (n m : NodeId) → o ≡ Some n → o ≡ Some m → n ≡ m
named_once o n m a b = let both : Some n ≡ Some m = sym a ∙ b in cc

-- what stands below an owned node stands below its owner
pub Reaches-through : {t : Tables} {kind : Kind} {p : Progress} {k m : ℕ} {r : NodeRef} → OwnsMade t p k m → Reaches t kind p m r → Reaches t kind p k r
Reaches-through {t} {kind} {p} {k} {m} {r} h w = record {
  from = h.outer;
  at_from = h.at_outer;
  to = w.to;
  under = Under-on h.outer w.from w.to.node w.under
      (subst (λ (n : NodeId). Under t p.graph h.outer n) (named_once (slice_get p.made m) h.inner w.from h.at_inner w.at_from) (below h.outer h.outer h.inner (itself h.outer) h.owns));
}

-- and so does an owned node itself
pub Reaches-owned : {t : Tables} {kind : Kind} {p : Progress} {k m : ℕ} → IsReady t p → OwnsMade t p k m → Plainly p m kind → Reaches t kind p k (new m)
Reaches-owned {t} {kind} {p} {k} {m} a h n =
    let same : h.inner ≡ n.node = named_once (slice_get p.made m) h.inner n.node h.at_inner n.at in
    record {
      from = h.outer;
      at_from = h.at_outer;
      to = record { node = h.inner; at = h.at_inner; there = subst (λ (z : NodeId). IsTrue (has_node p.graph z)) (sym same) to_there; is = ap (kind_of p.graph) same ∙ to_is };
      under = below h.outer h.outer h.inner (itself h.outer) h.owns;
    }
  where
    to_there : IsTrue (has_node p.graph n.node)
    to_there = origin_at-there p.graph n.node (origin.Plain kind) n.plain

    to_is : kind_of p.graph n.node ≡ Some kind
    to_is = let x = origin_at-is p.graph n.node (origin.Plain kind) n.plain in kind-plain (IsLinked-from_sound a.sound) n.node x.0 kind x.1 x.2

-- ---- later

pub id_named-in : (p : Progress) (root original : NodeRef) → id_named p (In root original) ≡ override_named p.graph (id_named p root) (id_named p original)
unfolding hidden-the_row-NodeRef-0 hidden
id_named-in p root original = refl

override_named-later : {k : Kind} {more : List NodeId} {p q : Progress} → Leaves k more p q → (a b c d : Option NodeId) (n : NodeId) → ((m : NodeId) → a ≡ Some m → c ≡ Some m) →
    ((m : NodeId) → b ≡ Some m → d ≡ Some m) → override_named p.graph a b ≡ Some n → override_named q.graph c d ≡ Some n
override_named-later {k} {more} {p} {q} g (Some a) (Some b) c d n f h e =
    let x = f a refl in
    let y = h b refl in
    rw x (rw y (g.overs a b n e))
override_named-later g (Some a) None c d n f h e = let no : None ≡ Some n = e in cc
override_named-later g None b c d n f h e = let no : None ≡ Some n = e in cc

pub made-later : {k : Kind} {more : List NodeId} {p q : Progress} → Leaves k more p q → (m : ℕ) (n : NodeId) → slice_get p.made m ≡ Some n → slice_get q.made m ≡ Some n
made-later {k} {more} {p} {q} g m n e = ap (λ ns. slice_get ns m) g.made ∙ slice_get-more p.made more m (slice_get_within p.made m n e) ∙ e

mutual
  pub id_named-later : {k : Kind} {more : List NodeId} {p q : Progress} → Leaves k more p q → (r : NodeRef) (n : NodeId) → id_named p r ≡ Some n → id_named q r ≡ Some n
  id_named-later g (Id m) n e = e
  id_named-later g (New k) n e = made-later g k n e
  id_named-later {k} {more} {p} {q} g (In' shape root other original) n e =
      override_named-later g (id_inside p root) (id_inside p original) (id_inside q root) (id_inside q original) n (id_inside-later g root) (id_inside-later g original) e

  id_inside-later : {m : _} {k : Kind} {more : List NodeId} {p q : Progress} → Leaves k more p q → (row : Row_of-NodeRef m) (n : NodeId) → id_inside p row ≡ Some n → id_inside q row ≡ Some n
  id_inside-later g end_of-NodeRef n e = e
  id_inside-later g (more_of-NodeRef r rest) n e = id_named-later g r n e

module _ {t : Tables} {k : Kind} {more : List NodeId} {p q : Progress} (a : IsReady t p) (b : IsReady t q) (g : Leaves k more p q) where
  abbrev pub Names-later : {r : NodeRef} {kind : Kind} → Names p r kind → Names q r kind
  Names-later {r} {kind} n = record {
    node = n.node;
    at = id_named-later g r n.node n.at;
    there = Keeps-there g.keeps n.node n.there;
    is = kind_of-kept (IsLinked-from_sound a.sound) (IsLinked-from_sound b.sound) g.keeps n.node n.there ∙ n.is;
  }

  abbrev pub Plainly-later : {m : ℕ} {kind : Kind} → Plainly p m kind → Plainly q m kind
  Plainly-later {m} {kind} n = record {
    node = n.node;
    at = made-later g m n.node n.at;
    plain = g.keeps.origins n.node (origin_at-there p.graph n.node (origin.Plain kind) n.plain) ∙ n.plain;
  }

  pub OwnsMade-later : {m x : ℕ} → OwnsMade t p m x → OwnsMade t q m x
  OwnsMade-later {m} {x} h = record {
    outer = h.outer;
    at_outer = made-later g m h.outer h.at_outer;
    inner = h.inner;
    at_inner = made-later g x h.inner h.at_inner;
    owns = Owns-later a b g h.outer h.inner h.owns;
  }

  pub Reaches-later : {kind : Kind} {m : ℕ} {r : NodeRef} → Reaches t kind p m r → Reaches t kind q m r
  Reaches-later {kind} {m} {r} w = record {
    from = w.from;
    at_from = made-later g m w.from w.at_from;
    to = Names-later w.to;
    under = Under-later a b g w.from w.to.node w.under;
  }
