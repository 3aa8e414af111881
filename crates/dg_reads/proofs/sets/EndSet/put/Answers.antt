use Rattle.std.proofs.Common.{ap, ◌∙◌}
use Rattle.dg_base.specs.Order.{put_end}
use Rattle.dg_laws.proofs.Ends.{ends_compare}
use Rattle.dg_reads.proofs.PutInOrder.{insert_key-put_by}
use Rattle.dg_reads.proofs.sets.EndSet.put.Goals as goal

pub returns-clause-ok : goal.returns-clause-ok
returns-clause-ok c = c.in_ok-insert.ensures.keys ∙ insert_key-put_by ends_compare c.self.inside.set.keys c.args.end ∙ ap (put_end c.args.end) c.self.view_is
