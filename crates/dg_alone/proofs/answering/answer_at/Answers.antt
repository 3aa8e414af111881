use Rattle.std.proofs.Common.{slice_get, ap, sym, ◌∙◌}
use Rattle.dg_base.specs.Value.{value_at}
use Rattle.dg_line.specs.Revisions.{Seen}
use Rattle.dg_kinds_coll.specs.Defold.{defold_tables}
use Rattle.dg_world.specs.Worlds.{pin_at}
use Rattle.dg_world.specs.Steps.{known_of, offer_of, walk_of}
use Rattle.dg_asks.specs.Told.{as_seen}
use Rattle.dg_alone.proofs.Questions.{asked-done}
use Rattle.dg_alone.proofs.Working.{answered-is, offer-there, publication-there, published-is}
use Rattle.dg_alone.proofs.answering.answer_at.Goals as goal

pub published_of-requires : goal.published_of-requires
published_of-requires g c =
    let w = c.args.world.now in let u = c.evaluate-outcome.new.self in let v = c.publish-outcome.new.self in
    let p = c.args.ticket in let e = c.args.at in let n = c.in_ok-held.offer in
    let a = answered-is defold_tables w u (pin_at w.pins c.args.pin) p e c.evaluate-outcome.result c.in_ok-held.held n c.requires.pin c.in_ok-held.ensures c.evaluate-outcome.ensures.step in
    publication-there u v (slice_get u.offers n) (offer_of defold_tables n p e (walk_of defold_tables p.revision.graph (known_of as_seen w.desk p) e)) c.publish-outcome.result
    (offer-there defold_tables w u p e c.in_ok-held.held n a) c.publish-outcome.ensures

pub of-requires : goal.of-requires
of-requires g c =
    let w = c.args.world.now in let u = c.evaluate-outcome.new.self in let p = c.args.ticket in let e = c.args.at in let n = c.in_ok-held.offer in
    let a = answered-is defold_tables w u (pin_at w.pins c.args.pin) p e c.evaluate-outcome.result c.in_ok-held.held n c.requires.pin c.in_ok-held.ensures c.evaluate-outcome.ensures.step in
    a.answer ∙ ap (λ (r : Seen). value_at defold_tables r.graph e) (sym c.into_revision.ensures)

pub returns-clause-world : goal.returns-clause-world
returns-clause-world g c =
    let w = c.args.world.now in let u = c.evaluate-outcome.new.self in let v = c.publish-outcome.new.self in
    let p = c.args.ticket in let e = c.args.at in let n = c.in_ok-held.offer in
    let a = answered-is defold_tables w u (pin_at w.pins c.args.pin) p e c.evaluate-outcome.result c.in_ok-held.held n c.requires.pin c.in_ok-held.ensures c.evaluate-outcome.ensures.step in
    let o = offer_of defold_tables n p e (walk_of defold_tables p.revision.graph (known_of as_seen w.desk p) e) in
    let q = published-is u v (slice_get u.offers n) o c.publish-outcome.result c.in_ok-published_of.field-0 (offer-there defold_tables w u p e c.in_ok-held.held n a) c.in_ok-published_of.ensures.is c.publish-outcome.ensures in
    asked-done defold_tables w u v p e c.in_ok-held.held n c.in_ok-published_of.field-0 c.is_world.ensures.desk c.is_world.ensures.world.now a q c.in_ok-published_of.ensures.all c.requires.whole
