use Rattle.std.proofs.Common.{◌≡◌, [], drop}
use Rattle.std.specs.Str.{bytes_eq}
use Rattle.indexmap.specs.IndexSet.{insert_all}
use Rattle.dg_build.proofs.texts.each_once.Given as goal

abbrev pub invariant-loop-text : goal.invariant-loop-text
invariant-loop-text l = insert_all (λ a b. bytes_eq a.now b.now) l.once.keys (drop l.text-index l.texts) ≡ insert_all (λ a b. bytes_eq a.now b.now) [] l.texts
