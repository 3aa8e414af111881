use Rattle.std.proofs.Common.{◌≡◌, ◌||◌, ℕ, List, Some, map, drop}
use Rattle.std.specs.List.{list_any}
use Rattle.std.specs.Str.{bytes_eq}
use Rattle.dg_kinds_go.specs.Values.{text_in}
use Rattle.dg_kinds_coll.specs.Collections.{has_text}
use Rattle.dg_kinds_coll.proofs.named.put_texts.Given as goal

abbrev pub invariant-loop-text : goal.invariant-loop-text
invariant-loop-text l =
    (id : List ℕ) →
    (list_any (λ c. bytes_eq c id) (map (λ t. text_in (Some t)) (drop l.text-index l.texts)) || has_text l.named id)
    ≡ (list_any (λ c. bytes_eq c id) (map (λ t. text_in (Some t)) l.texts) || has_text l.initial.named id)
