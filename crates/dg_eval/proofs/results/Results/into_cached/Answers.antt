use Rattle.std.proofs.Common.{rules, ap, ◌∙◌}
use Rattle.std.proofs.lemmas.Fn.{filter_same}
use Rattle.dg_base.specs.Evaluation.{is_cached_at}
use Rattle.dg_eval.specs.Results.{cached_of}
use Rattle.dg_eval.proofs.results.Results.into_cached.Goals as goal

pub returns : goal.returns
returns g c =
    filter_same _ (λ x. is_cached_at g.S.Schema.tables c.args.graph.now x.at) _ (λ x b f' k. search rules) c.self.inside.entries.items c.retain.new.self.items c.retain.ensures.filtered
    ∙ ap (cached_of g.S.Schema.tables c.args.graph.now) c.self.view_is
