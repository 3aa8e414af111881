use Rattle.std.proofs.Common.{◌≡◌, List, [], ◌∷◌, Bool, true, length, refl, sym, ap, ◌∙◌, arith, eq-eqb}
use Rattle.std.proofs.Math.ListN.{set}
use Rattle.std.specs.List.{count_by}
use Rattle.dg_pool.specs.Tallies.{AddsUp, Tally, one_if, sum_of}
use Rattle.dg_pool.proofs.uses.left_of.Goals as goal

-- with one pass, and one job put that counts, one is left
left_one : {J : Type 0} (meets : J → Bool) (ts : List Tally) (t : Tally) (left : List J) → length ts ≡ 1 → t.puts ≡ 1 → t.takes ≡ 0 → AddsUp meets (sum_of (set ts 0 t)) left
    → count_by meets left ≡ 1
left_one meets [] t left one puts takes adds = absurd (omega arith)
left_one meets (s ∷ []) t left one puts takes adds = omega (arith, adds.counted)
left_one meets (s ∷ u ∷ ts) t left one puts takes adds = absurd (omega arith)

pub returns-in-Ok : goal.returns-in-Ok
returns-in-Ok g c =
    let meets : g.T.Test.meets c.args.job ≡ true = sym (c.requires.test c.args.job) ∙ eq-eqb c.args.job c.args.job refl in
    let fresh = c.index_mut.ensures.value ∙ c.in_ok-pool.ensures.fresh 0 c.index_mut.result.now (omega (arith, c.in_ok-pool.ensures.count)) in
    let put = c.in-Ok.ensures in
    left_one g.T.Test.meets c.in_ok-pool.passes.items c.put.new.pass c.close_out.result.items c.in_ok-pool.ensures.count
    (omega (arith, ap (λ (t : Tally). t.puts) put, ap one_if meets, ap (λ (t : Tally). t.puts) fresh)) (omega (arith, ap (λ (t : Tally). t.takes) put, ap (λ (t : Tally). t.takes) fresh)) c.close_out.ensures
