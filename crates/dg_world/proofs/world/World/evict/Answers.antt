use Rattle.dg_world.specs.Worlds.{Worlded}
use Rattle.dg_world.proofs.Events.{evicted-by}
use Rattle.dg_world.proofs.world.World.evict.Given.{Over}
use Rattle.dg_world.proofs.world.World.evict.Goals as goal

module _ (g : Over) (c : goal.After-evict g) where
  abbrev before : Worlded g.row.N.Denot g.row.N-Mark.Denot
  before = record { editor = c.self.inside.editor.it; desk = c.self.inside.desk; pins = c.self.inside.pins.items; offers = c.self.inside.offers.items; made = c.self.inside.made }

pub invariant_of-self : goal.invariant_of-self
invariant_of-self g c =
    evicted-by g.S.Schema.tables g.N.Mark.Mark.seen (g.N.Line.is_of c.self.inside.editor.it.line) (before g c) c.args.most c.evict.result c.evict.new.self c.self.invariant c.evict.ensures
