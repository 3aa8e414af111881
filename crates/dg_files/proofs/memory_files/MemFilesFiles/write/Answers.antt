use Rattle.std.proofs.Common.{◌∙◌, ap}
use Rattle.dg_files.specs.Tree.{are_distinct}
use Rattle.dg_files.specs.Kept.{tree_of}
use Rattle.dg_files.proofs.Trees.{are_distinct-written}
use Rattle.dg_files.proofs.memory_files.MemFilesFiles.write.Goals as goal

pub invariant_of-self-2 : goal.invariant_of-self-2
invariant_of-self-2 c =
    let kept = are_distinct-written (tree_of c.self.inside.files.items) c.args.path.now c.args.bytes.now c.self.invariant in
    ap are_distinct c.in_ok-put_bytes.ensures.ok ∙ kept

pub returns-clause-distinct : goal.returns-clause-distinct
returns-clause-distinct c =
    let kept = are_distinct-written (tree_of c.self.inside.files.items) c.args.path.now c.args.bytes.now c.self.invariant in
    ap are_distinct c.in_ok-put_bytes.ensures.ok ∙ kept
