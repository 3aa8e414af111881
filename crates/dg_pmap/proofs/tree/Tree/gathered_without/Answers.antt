use Rattle.std.proofs.Common.{◌≡◌, ◌≤◌, ◌+◌, ◌++◌, List, length, sym, ap, ◌∙◌, arith}
use Rattle.std.proofs.lemmas.Bool.Decides.{nat_tests}
use Rattle.std.specs.BTreeMap.{is_at}
use Rattle.std.specs.Map.{remove_entry}
use Rattle.dg_pmap.specs.Heights.{fewest}
use Rattle.dg_pmap.proofs.Heights.{flat_alone}
use Rattle.dg_pmap.proofs.Shapes.{filled_outside}
use Rattle.dg_pmap.proofs.Splits.{length-remove_entry-ge, length-remove_entry-le}
use Rattle.dg_pmap.proofs.tree.Tree.gathered_without.Goals as goal

pub returns-then-is_empty-clause-height : goal.returns-then-is_empty-clause-height
returns-then-is_empty-clause-height g c =
    let all : c.copy_into.new.all.items ≡ c.args.self.now.0 = rw c.in_ok-all.ensures.items at c.in_ok-copy_into.ensures in
    let rest : c.take_out.new.entries.items ≡ remove_entry (is_at (g.K.Ord.cmp c.args.key.now)) c.args.self.now.0 = c.take_out.ensures.pairs ∙ ap (remove_entry (is_at (g.K.Ord.cmp c.args.key.now))) all in
    let none : c.take_out.new.entries.len ≡ 0 = grind (arith, nat_tests, c.if-is_empty.ensures) in
    let long = c.take_out.new.entries.ok.0 in
    flat_alone _ _ c.requires.flat (filled_outside c.self.inside.height c.self.inside.body c.args.self.now c.self.invariant.1 c.self.view_is)
    (omega (arith, length-remove_entry-ge (is_at (g.K.Ord.cmp c.args.key.now)) c.args.self.now.0, ap length rest))

pub leaf-requires-clause-few : goal.leaf-requires-clause-few
leaf-requires-clause-few g c =
    let all : c.copy_into.new.all.items ≡ c.args.self.now.0 = rw c.in_ok-all.ensures.items at c.in_ok-copy_into.ensures in
    rw (c.take_out.ensures.pairs, all) (omega (arith, length-remove_entry-le (is_at (g.K.Ord.cmp c.args.key.now)) c.args.self.now.0, c.requires.few))
