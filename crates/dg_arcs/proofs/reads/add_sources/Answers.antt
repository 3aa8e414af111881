use Rattle.std.proofs.Common.{sym, ◌∙◌}
use Rattle.dg_base.specs.declared.ids.Endpoint.{Endpoint}
use Rattle.dg_pmap.proofs.Runs.{all_more, put-more}
use Rattle.dg_arcs.specs.Kept.{Target, comes_into}
use Rattle.dg_arcs.proofs.reads.add_sources.Goals as goal

abbrev no_end : Endpoint
no_end = record { node = record { 0 = 0 }; label = record { 0 = 0 } }

abbrev nothing : Target × Endpoint
nothing = (((record { 0 = 0 }, record { 0 = 0 }), 0), no_end)

pub loop-entry-preserved : goal.loop-entry-preserved
loop-entry-preserved c =
    let here = sym c.is_into.ensures ∙ c.if-not-is_into.false in
    record {
      so_far =
          put-more (comes_into c.args.node c.args.input) (λ (e : Target × Endpoint). e.1) c.loop-entry.sources.items c.push.new.self.items c.args.run.now c.loop-entry.entry-index nothing c.loop-entry-test.true here c.in_ok-push.ensures.items
          ∙ c.loop-entry.invariant.so_far;
      all = sym (all_more (comes_into c.args.node c.args.input) c.args.run.now c.loop-entry.entry-index nothing c.loop-entry-test.true here) ∙ c.loop-entry.invariant.all;
    }
