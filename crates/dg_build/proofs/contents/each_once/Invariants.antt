use Rattle.std.proofs.Common.{◌≡◌, [], drop}
use Rattle.indexmap.specs.IndexSet.{insert_all}
use Rattle.dg_build.specs.Contents.{same_embedded}
use Rattle.dg_build.proofs.contents.each_once.Given as goal

abbrev pub invariant-loop-content : goal.invariant-loop-content
invariant-loop-content l = insert_all same_embedded l.once.keys (drop l.content-index l.contents) ≡ insert_all same_embedded [] l.contents
