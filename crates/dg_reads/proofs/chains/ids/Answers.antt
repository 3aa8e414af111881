use Rattle.std.proofs.Common.{rules, ◌≡◌, length}
use Rattle.dg_reads.proofs.Ids.{all_read, fewer_left, one_more, read_behind}
use Rattle.dg_reads.proofs.chains.ids.Goals as goal

pub loop-id-smaller : goal.loop-id-smaller
loop-id-smaller g c =
    let len : c.len.result ≡ length c.loop-id.ids.items = search rules in
    fewer_left (g.G.CoreReads.graph c.args.graph.now).nodes c.loop-id.ids.items c.push.new.self.items c.in-Some.id (read_behind (g.G.CoreReads.graph c.args.graph.now).nodes c.loop-id.ids.items c.len.result c.id_at.result _ len c.id_at.ensures c.in-Some.is) c.in_ok-push.ensures.items

pub loop-id-preserved : goal.loop-id-preserved
loop-id-preserved g c =
    let len : c.len.result ≡ length c.loop-id.ids.items = search rules in
    one_more (g.G.CoreReads.graph c.args.graph.now).nodes c.loop-id.ids.items c.push.new.self.items c.in-Some.id (read_behind (g.G.CoreReads.graph c.args.graph.now).nodes c.loop-id.ids.items c.len.result c.id_at.result _ len c.id_at.ensures c.in-Some.is) c.in_ok-push.ensures.items
    c.loop-id.invariant

pub returns : goal.returns
returns g c =
    let len : c.len.result ≡ length c.loop-id.ids.items = search rules in
    all_read (g.G.CoreReads.graph c.args.graph.now).nodes c.loop-id.ids.items (read_behind (g.G.CoreReads.graph c.args.graph.now).nodes c.loop-id.ids.items c.len.result c.id_at.result _ len c.id_at.ensures c.in_default.is) c.loop-id.invariant
