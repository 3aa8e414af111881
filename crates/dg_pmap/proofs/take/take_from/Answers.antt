use Rattle.std.proofs.Common.{◌≡◌, ◌<◌, length, arith}
use Rattle.dg_pmap.proofs.Takes.{first_key-at}
use Rattle.dg_pmap.proofs.take.take_from.Goals as goal

pub returns-clause-first : goal.returns-clause-first
returns-clause-first g c = first_key-at c.take_out.new.entries.items c.index.result.now (omega (arith, c.take_out.ensures.least, c.requires.many)) c.index.ensures
