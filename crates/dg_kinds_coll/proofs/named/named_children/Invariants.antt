use Rattle.std.proofs.Common.{◌≡◌, ◌||◌, ℕ, List, map, drop}
use Rattle.dg_kinds_go.specs.Values.{good_in}
use Rattle.dg_kinds_coll.specs.Collections.{has_text, is_named}
use Rattle.dg_kinds_coll.proofs.named.named_children.Given as goal

abbrev pub invariant-loop-held : goal.invariant-loop-held
invariant-loop-held l =
    (id : List ℕ) → (is_named (map good_in (drop l.held-index l.instances)) id || has_text l.named id) ≡ is_named (map good_in l.instances) id
