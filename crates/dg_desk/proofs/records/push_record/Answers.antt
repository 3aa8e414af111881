use Rattle.std.proofs.Common.{◌≡◌, ◌+◌, ◌++◌, ◌∷◌, ◌<◌, ◌==◌, [], sym, ap, ◌∙◌, subst, length, slice_set, vec_len, arith, rules}
use Rattle.std.proofs.lemmas.Option.{get_or_from_slice_get}
use Rattle.dg_laws.proofs.Filters.{length_filter_le}
use Rattle.dg_desk.specs.Machine.{Event}
use Rattle.dg_desk.specs.Desks.{nth_of}
use Rattle.dg_desk.specs.Places.{AreCounts}
use Rattle.dg_desk.proofs.Places.{counts_more}
use Rattle.dg_desk.proofs.records.push_record.Goals as goal

pub overflow_add-counts : goal.overflow_add-counts
overflow_add-counts g c =
    let h = c.args.history.now in
    let n = get_or_from_slice_get c.args.counts.now c.args.pass (nth_of c.args.pass h.items) 0 (c.requires.counts c.args.pass c.requires.pass) in
    let few = length_filter_le (λ e. e.pass == c.args.pass) h.items in
    let l : vec_len h ≡ length h.items = search rules in
    let small : vec_len h + 1 < 18446744073709551616 = search rules in
    omega (arith, n, few, l, small)

pub returns-clause-items : goal.returns-clause-items
returns-clause-items g c =
    let h = c.args.history.now in
    let n = get_or_from_slice_get c.args.counts.now c.args.pass (nth_of c.args.pass h.items) 0 (c.requires.counts c.args.pass c.requires.pass) in
    c.push_reserved.ensures.items ∙ ap (λ k. h.items ++ record { pass = c.args.pass; nth = k; what = c.args.what } ∷ []) n

pub returns-clause-counts : goal.returns-clause-counts
returns-clause-counts g c =
    let h = c.args.history.now in
    let e : Event _ _ = record { pass = c.args.pass; nth = nth_of c.args.pass h.items; what = c.args.what } in
    let n = get_or_from_slice_get c.args.counts.now c.args.pass (nth_of c.args.pass h.items) 0 (c.requires.counts c.args.pass c.requires.pass) in
    subst (λ k. AreCounts c.push_reserved.new.self.items (slice_set c.args.counts.now c.args.pass (k + 1))) (sym n)
    (subst (λ hs. AreCounts hs (slice_set c.args.counts.now c.args.pass (nth_of c.args.pass h.items + 1))) (sym (returns-clause-items g c)) (counts_more h.items e c.args.counts.now c.requires.counts))
