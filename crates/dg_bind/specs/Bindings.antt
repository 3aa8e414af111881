-- The names of a script and the nodes that they are bound to: a list in which each name stands once.
use Rattle.std.specs.Prelude.{ℕ, List, [], ◌∷◌, cond, Option, Some, None, bytes_eq}
use Rattle.dg_base.specs.declared.ids.NodeId.{NodeId}

pub record Binding : Type 0 where
  pub name : List ℕ
  pub node : NodeId

-- the node of a name
abbrev pub bound_to : List Binding → List ℕ → Option NodeId
bound_to [] name = None
bound_to (b ∷ bs) name = cond (bytes_eq name b.name) (Some b.node) (bound_to bs name)

-- a name that is bound already stands for the new node from then on, in its old place; another goes last
abbrev pub bind : List Binding → List ℕ → NodeId → List Binding
bind [] name node = record { name = name; node = node } ∷ []
bind (b ∷ bs) name node = cond (bytes_eq name b.name) (record { name = b.name; node = node } ∷ bs) (b ∷ bind bs name node)
