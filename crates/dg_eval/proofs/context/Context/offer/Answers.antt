use Rattle.std.proofs.Common.{rules, ◌≡◌, List, sym, ap, ◌∙◌, subst}
use Rattle.dg_base.specs.declared.ids.Endpoint.{Endpoint}
use Rattle.dg_base.specs.Evaluation.{evaluated, nothing_evaluated}
use Rattle.dg_cache.specs.declared.entry.Entry.{Entry}
use Rattle.dg_cache.specs.Entries.{ends_of}
use Rattle.dg_offer.specs.Offers.{IsOffer}
use Rattle.dg_eval.specs.Results.{so_far, cached_of}
use Rattle.dg_eval.proofs.Offers.{offered-seen}
use Rattle.dg_eval.proofs.context.Context.offer.Goals as goal

pub of-requires : goal.of-requires
of-requires g c =
    let t = g.S.Schema.tables in
    let r = c.self.inside.ticket.revision in
    let graph : c.graph.result.now ≡ r.graph = search rules in
    let entries : c.into_cached-entries.result.items ≡ cached_of t r.graph c.self.inside.results = c.into_cached-entries.ensures ∙ ap (λ z. cached_of t z c.self.inside.results) graph in
    let hits : c.into_vec.result.items ≡ c.self.inside.hits = c.into_vec.ensures in
    let walk : so_far c.self.inside.results c.self.inside.hits ≡ evaluated t r.graph (ends_of c.self.inside.known) nothing_evaluated c.args.at =
    subst (λ v. so_far v.results v.hits ≡ evaluated t v.ticket.revision.graph (ends_of v.known) nothing_evaluated c.args.at) (sym c.self.view_is) c.requires.evaluated in
    subst (λ (z : List Entry). IsOffer g.M.Mark.tables (g.M.Mark.seen r).graph c.args.at z c.into_vec.result.items) (sym entries)
    (subst (λ (z : List Endpoint). IsOffer g.M.Mark.tables (g.M.Mark.seen r).graph c.args.at (cached_of t r.graph c.self.inside.results) z) (sym hits)
    (offered-seen g.M.Mark.seen c.requires.tables c.requires.seen r c.self.inside.known c.self.inside.results c.self.inside.hits c.args.at c.self.invariant.1 walk))
