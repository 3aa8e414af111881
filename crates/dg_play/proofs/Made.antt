-- Names and the nodes that were made.
use Rattle.std.proofs.Common.{◌≡◌, ℕ, List, [], ◌∷◌, refl}
use Rattle.dg_bind.specs.Bindings.{Binding}
use Rattle.dg_play.specs.Play.{bind_made}

-- where no node is left, no name is bound
pub bind_made-no_node : (bound : List Binding) (names : List (List ℕ)) → bind_made bound names [] ≡ bound
bind_made-no_node bound [] = refl
bind_made-no_node bound (name ∷ names) = refl
