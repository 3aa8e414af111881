use Rattle.std.proofs.Common.{map, ap, ◌∙◌, string_bytes}
use Rattle.std.specs.Cmp.Lexicographic.{nat_list_cmp_total}
use Rattle.std.proofs.lemmas.List.Sorted.{ranks_by}
use Rattle.dg_sources.specs.Sorting.{text_before}
use Rattle.dg_sources.proofs.StableSorts.{stable-sorted, map-sorted}
use Rattle.dg_sources.proofs.sorting.sort_texts.Goals as goal

pub returns : goal.returns
returns c =
    ap (map string_bytes) (
    stable-sorted (λ a b. text_before (string_bytes a) (string_bytes b)) (ranks_by nat_list_cmp_total string_bytes)
    c.args.texts.now.items c.sort.new.self.items c.in_ok-sort.ensures.sorted c.sort.ensures.stable)
    ∙ map-sorted string_bytes text_before c.args.texts.now.items
