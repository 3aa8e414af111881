-- One round of the loop over the heirs that are populated.
use Rattle.std.proofs.Common.{◌≡◌, ◌∙◌, ◌+◌, ◌<◌, ℕ, List, Option, Some, None, Result, Ok, Err, length, drop, get_or, refl, ap}
use Rattle.dg_base.specs.declared.ids.NodeId.{NodeId}
use Rattle.dg_base.specs.declared.ids.Label.{Label}
use Rattle.dg_base.specs.declared.graph.Node.{Node}
use Rattle.dg_base.specs.declared.graph.Origin.TheVariants as origin
use Rattle.dg_base.specs.declared.step.TxCode.{TxCode}
use Rattle.dg_base.specs.Tables.{Tables}
use Rattle.dg_base.specs.Graph.{origin_of}
use Rattle.dg_base.specs.Refusal.{and_then}
use Rattle.dg_base.specs.Progress.{Progress}
use Rattle.dg_base.specs.Populate.{populate_heir, populate_all}
use Rattle.dg_over.proofs.OverrideRounds.{next_of}

module _ (t : Tables) (i : Label) (hs : List NodeId) (k : ℕ) (d : NodeId) (p : Progress) where
  next_heir : k < length hs → populate_all t i (drop k hs) p ≡ and_then (populate_heir t p i (get_or hs k d)) (populate_all t i (drop (k + 1) hs))
  next_heir lt = ap (λ (z : List NodeId). populate_all t i z p) (next_of hs k d lt)

  pub heir_refused : (c : TxCode) → k < length hs → populate_heir t p i (get_or hs k d) ≡ Err c → populate_all t i (drop k hs) p ≡ Err c
  heir_refused c lt e = next_heir lt ∙ ap (λ (r : Result Progress TxCode). and_then r (populate_all t i (drop (k + 1) hs))) e

  pub heir_done : (q : Progress) → k < length hs → populate_heir t p i (get_or hs k d) ≡ Ok q → populate_all t i (drop k hs) p ≡ populate_all t i (drop (k + 1) hs) q
  heir_done q lt e = next_heir lt ∙ ap (λ (r : Result Progress TxCode). and_then r (populate_all t i (drop (k + 1) hs))) e

-- the node of an origin that is given
pub over_at : (o : Option Node) (root original : NodeId) → origin_of o ≡ Some (origin.Over root original) → (x : Node) × (o ≡ Some x) × (x.origin ≡ origin.Over root original)
over_at None root original e = cc
over_at (Some x) root original e = (x, refl, cc)
