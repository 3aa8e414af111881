use Rattle.std.proofs.Common.{◌∙◌, le_trans}
use Rattle.dg_deeds.specs.Deeds.{IsBegun}
use Rattle.dg_deeds.proofs.Parts.{IfErr-handed, IsBegun-at, line-at, tree_after-take, text_after-take}
use Rattle.dg_deeds.proofs.Sinks.{stays_sound}
use Rattle.dg_deeds.proofs.doing.do_all.Goals as goal

pub returns-in_err-do_one-clause-begun : goal.returns-in_err-do_one-clause-begun
returns-in_err-do_one-clause-begun g c =
    let tree = g.F.Files.tree in
    let bytes = g.S.Sink.bytes in
    IfErr-handed
    (λ stop. IsBegun stop c.args.deeds.now (tree c.args.files.now) (tree c.do_one.new.files) (bytes c.args.out.now) (bytes c.do_one.new.out))
    c.from_residual.result c.in_err-do_one.field-0.0 c.from_residual.ensures
    (IsBegun-at c.in_err-do_one.field-0.0 c.args.deeds.now c.loop-deed.deed-index c.deed-item.result
    (tree c.args.files.now) (tree c.loop-deed.files) (tree c.do_one.new.files)
    (bytes c.args.out.now) (bytes c.loop-deed.out) (bytes c.do_one.new.out)
    c.deed-item.is c.loop-deed-test.true c.loop-deed.invariant.tree c.loop-deed.invariant.text c.in_err-do_one.ensures.part)

pub loop-deed-preserved : goal.loop-deed-preserved
loop-deed-preserved g c =
    let tree = g.F.Files.tree in
    let bytes = g.S.Sink.bytes in
    record {
      tree =
          tree_after-take c.args.deeds.now c.loop-deed.deed-index c.deed-item.result (tree c.args.files.now) (tree c.loop-deed.files) (tree c.do_one.new.files)
          c.deed-item.is c.loop-deed-test.true c.loop-deed.invariant.tree c.in_ok-do_one.ensures.tree;
      text =
          text_after-take c.args.deeds.now c.loop-deed.deed-index c.deed-item.result (bytes c.args.out.now) (bytes c.loop-deed.out) (bytes c.do_one.new.out)
          c.deed-item.is c.loop-deed-test.true c.loop-deed.invariant.text c.in_ok-do_one.ensures.text;
      untouched = λ are.
          c.in_ok-do_one.ensures.untouched (line-at c.args.deeds.now c.loop-deed.deed-index c.deed-item.result are c.deed-item.is c.loop-deed-test.true) ∙ c.loop-deed.invariant.untouched are;
      files_never_fall = le_trans c.loop-deed.invariant.files_never_fall c.in_ok-do_one.ensures.files_never_fall;
      out_never_falls = le_trans c.loop-deed.invariant.out_never_falls c.in_ok-do_one.ensures.out_never_falls;
      files_sound =
          stays_sound g.F.Files.is_sound g.F.Files.faults c.args.files.now c.loop-deed.files c.do_one.new.files
          c.loop-deed.invariant.files_sound c.in_ok-do_one.ensures.files_sound;
      out_sound =
          stays_sound g.S.Sink.is_sound g.S.Sink.faults c.args.out.now c.loop-deed.out c.do_one.new.out
          c.loop-deed.invariant.out_sound c.in_ok-do_one.ensures.out_sound;
    }

pub returns-in_err-do_one-clause-untouched : goal.returns-in_err-do_one-clause-untouched
returns-in_err-do_one-clause-untouched g c = λ are.
    c.in_err-do_one.ensures.untouched (line-at c.args.deeds.now c.loop-deed.deed-index c.deed-item.result are c.deed-item.is c.loop-deed-test.true) ∙ c.loop-deed.invariant.untouched are
