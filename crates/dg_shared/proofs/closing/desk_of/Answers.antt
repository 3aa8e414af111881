use Rattle.std.proofs.Common.{ap, ◌∙◌}
use Rattle.dg_room.specs.Made.{Made}
use Rattle.dg_shared.proofs.Counting.{evictions-counted, follows-counted}
use Rattle.dg_shared.proofs.closing.desk_of.Goals as goal

pub returns-in-Ok-clause-follows : goal.returns-in-Ok-clause-follows
returns-in-Ok-clause-follows g c = follows-counted c.in-Ok.desk.history ∙ ap (λ (m : Made). m.follows) c.in-Ok.ensures.has.made

pub returns-in-Ok-clause-evictions : goal.returns-in-Ok-clause-evictions
returns-in-Ok-clause-evictions g c = evictions-counted c.in-Ok.desk.history ∙ ap (λ (m : Made). m.evictions) c.in-Ok.ensures.has.made
