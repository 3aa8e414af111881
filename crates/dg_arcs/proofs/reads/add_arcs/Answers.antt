use Rattle.std.proofs.Common.{sym, ◌∙◌}
use Rattle.dg_base.specs.declared.ids.Endpoint.{Endpoint}
use Rattle.dg_base.specs.declared.ids.ArcRec.{ArcRec}
use Rattle.dg_pmap.proofs.Runs.{all_more, put-more}
use Rattle.dg_arcs.specs.Kept.{Source, goes_out_of}
use Rattle.dg_arcs.proofs.reads.add_arcs.Goals as goal

abbrev no_end : Endpoint
no_end = record { node = record { 0 = 0 }; label = record { 0 = 0 } }

abbrev nothing : Source × ArcRec
nothing = ((record { 0 = 0 }, 0), record { src = no_end; node = record { 0 = 0 }; input = record { 0 = 0 } })

pub loop-entry-preserved : goal.loop-entry-preserved
loop-entry-preserved c =
    let here = sym c.is_out_of.ensures ∙ c.if-not-is_out_of.false in
    record {
      so_far =
          put-more (goes_out_of c.args.node) (λ (e : Source × ArcRec). e.1) c.loop-entry.arcs.items c.push.new.self.items c.args.run.now c.loop-entry.entry-index nothing c.loop-entry-test.true here c.in_ok-push.ensures.items
          ∙ c.loop-entry.invariant.so_far;
      all = sym (all_more (goes_out_of c.args.node) c.args.run.now c.loop-entry.entry-index nothing c.loop-entry-test.true here) ∙ c.loop-entry.invariant.all;
    }
