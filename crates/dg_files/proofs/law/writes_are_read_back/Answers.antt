use Rattle.dg_files.proofs.Trees.{bytes_at-written, bytes_at-written_same, are_distinct-written, bytes_eq-differs}
use Rattle.dg_files.proofs.law.writes_are_read_back.Goals as goal

pub returns-clause-here : goal.returns-clause-here
returns-clause-here c = bytes_at-written_same

pub returns-clause-others : goal.returns-clause-others
returns-clause-others c = λ files path bytes other differs. bytes_at-written files path bytes other (bytes_eq-differs path other differs)

pub returns-clause-distinct : goal.returns-clause-distinct
returns-clause-distinct c = are_distinct-written
