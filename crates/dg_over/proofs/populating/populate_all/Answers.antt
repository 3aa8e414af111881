use Rattle.std.proofs.Common.{◌∙◌, ℕ, [], sym}
use Rattle.dg_base.specs.declared.ids.NodeId.{NodeId}
use Rattle.dg_laws.proofs.SoundOverrides.{populate_heir-after}
use Rattle.dg_over.specs.Makes.{progress_of}
use Rattle.dg_over.proofs.Refusals.{Gives-handed}
use Rattle.dg_over.proofs.HeirRounds.{heir_refused, heir_done}
use Rattle.dg_over.proofs.populating.populate_all.Goals as goal

abbrev none : NodeId
none = record { 0 = 0 }

pub returns-in_err-id : goal.returns-in_err-id
returns-in_err-id g c made =
    Gives-handed (λ (n : ℕ). progress_of c.populate_heir.new.graph n made) _ _ _
    (λ e refused.
    sym (c.loop-heir.invariant.so_far made)
    ∙ heir_refused g.S.Schema.tables c.args.input c.args.heirs.now c.loop-heir.heir-index none (progress_of c.loop-heir.graph c.loop-heir.id made) e c.loop-heir-test.true refused)
    c.from_residual.result c.in_err-id.field-0.0 c.from_residual.ensures (c.in_err-id.ensures made)

pub loop-heir-preserved : goal.loop-heir-preserved
loop-heir-preserved g c = record {
  ready = (populate_heir-after c.loop-heir.invariant.ready c.args.input _ (c.in_ok-id.ensures [])).ready;
  so_far = λ made.
      sym (heir_done g.S.Schema.tables c.args.input c.args.heirs.now c.loop-heir.heir-index none (progress_of c.loop-heir.graph c.loop-heir.id made) _
      c.loop-heir-test.true (c.in_ok-id.ensures made))
      ∙ c.loop-heir.invariant.so_far made;
}
