-- The node that a word of a step stands for.
use Rattle.std.specs.Prelude.{ℕ, zero, suc, ◌+◌, List, [], ◌∷◌, Bool, cond, codes, Option, Some, None, length, bytes_eq}
use Rattle.std.specs.Option.{option_map}
use Rattle.dg_base.specs.declared.step.NodeRef.{NodeRef}
use Rattle.dg_base.specs.declared.step.NodeRef.TheVariants as ref
use Rattle.dg_text.specs.LastMark.{Split, split_at_last}
use Rattle.dg_bind.specs.Bindings.{Binding, bound_to}

-- the names before a step: those that are bound, and those of the nodes that the steps before it make,
-- in order
pub record Scope : Type 0 where
  pub bound : List Binding
  pub new : List (List ℕ)

-- the last place of a name, counted from 0
abbrev pub or_later : Bool → Option ℕ → Option ℕ
or_later here (Some place) = Some (place + 1)
or_later here None = cond here (Some 0) None

abbrev pub last_place : List (List ℕ) → List ℕ → Option ℕ
last_place [] name = None
last_place (m ∷ ms) name = or_later (bytes_eq name m) (last_place ms name)

-- a name stands for the last new node of that name, else for the one that is bound
abbrev pub new_or_bound : Option ℕ → Option NodeRef → Option NodeRef
new_or_bound (Some k) bound = Some (ref.New k)
new_or_bound None bound = bound

abbrev pub name_ref : Scope → List ℕ → Option NodeRef
name_ref s name = new_or_bound (last_place s.new name) (option_map ref.Id (bound_to s.bound name))

-- words are joined by `@`
abbrev pub parts_of : List ℕ → Option Split
parts_of word = split_at_last (codes "@") word

-- the override node of the original in the override of the root, where both are there
abbrev pub joined : Option NodeRef → Option NodeRef → Option NodeRef
joined (Some root) (Some original) = Some (ref.In root original)
joined _ _ = None

-- the whole word is a name, or else it is split at its last `@`: the right side is the name of a root,
-- and the left side is read as the word is
abbrev pub half_ref : Scope → (List ℕ → Option NodeRef) → Option Split → Option NodeRef
half_ref s read None = None
half_ref s read (Some split) = joined (name_ref s split.behind) (read split.before)

abbrev pub whole_or_half : Option NodeRef → Option NodeRef → Option NodeRef
whole_or_half (Some whole) half = Some whole
whole_or_half None half = half

abbrev pub node_ref_in : ℕ → Scope → List ℕ → Option NodeRef
node_ref_in zero s word = None
node_ref_in (suc n) s word = whole_or_half (name_ref s word) (half_ref s (node_ref_in n s) (parts_of word))

-- each split makes the word shorter
abbrev pub node_ref : Scope → List ℕ → Option NodeRef
node_ref s word = node_ref_in (suc (length word)) s word
