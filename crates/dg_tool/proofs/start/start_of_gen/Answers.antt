use Rattle.std.proofs.Common.{IsTrue, arith, sym, subst}
use Rattle.dg_files.specs.Tree.{Tree, are_distinct}
use Rattle.dg_tool.proofs.start.start_of_gen.Goals as goal

pub loaded_in_memory-requires : goal.loaded_in_memory-requires
loaded_in_memory-requires g c =
    subst (λ (t : Tree). IsTrue (are_distinct t)) (sym c.in_ok-made.ensures.files) (c.generated_paths_differ.ensures c.args.seed c.args.size (omega (arith, c.requires.most)))
