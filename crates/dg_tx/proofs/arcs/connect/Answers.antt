use Rattle.std.proofs.Common.{ap, ◌∙◌}
use Rattle.dg_base.specs.Role.{given}
use Rattle.dg_tx.proofs.ConnectedArcs.{new_arc-sound, typed_arc-ready}
use Rattle.dg_tx.proofs.arcs.connect.Goals as goal

pub put_typed-requires-clause-fits : goal.put_typed-requires-clause-fits
put_typed-requires-clause-fits g c =
    new_arc-sound c.requires.ready c.args.arc c.requires.src_there c.requires.there (c.given-given.ensures ∙ ap given c.role_at.ensures) c.role_at-input.ensures

pub populate_if-requires : goal.populate_if-requires
populate_if-requires g c =
    typed_arc-ready c.requires.ready c.args.arc c.requires.src_there c.requires.there (c.given-given.ensures ∙ ap given c.role_at.ensures) c.role_at-input.ensures _
    (c.in_ok-put_typed.ensures c.args.work.now.next c.args.work.now.made.items)
