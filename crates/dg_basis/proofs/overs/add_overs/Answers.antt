use Rattle.std.proofs.Common.{sym, ◌∙◌}
use Rattle.std.proofs.lemmas.Bool.{not-false}
use Rattle.dg_pmap.proofs.Runs.{all_more, put-more}
use Rattle.dg_basis.specs.Keys.{Over, is_over_one}
use Rattle.dg_basis.proofs.Orders.{first_node}
use Rattle.dg_basis.proofs.overs.add_overs.Goals as goal

abbrev none : Over × Unit {0}
none = ((first_node, first_node), tt)

pub loop-entry-preserved : goal.loop-entry-preserved
loop-entry-preserved c =
    let here = not-false _ (sym c.ne.ensures ∙ c.if-ne.false) in
    record {
      so_far =
          put-more (is_over_one c.args.node) (λ (e : Over × Unit {0}). e.0.1) c.loop-entry.found.items c.push.new.self.items c.args.run.now c.loop-entry.entry-index none c.loop-entry-test.true here c.in_ok-push.ensures.items
          ∙ c.loop-entry.invariant.so_far;
      all = sym (all_more (is_over_one c.args.node) c.args.run.now c.loop-entry.entry-index none c.loop-entry-test.true here) ∙ c.loop-entry.invariant.all;
    }
