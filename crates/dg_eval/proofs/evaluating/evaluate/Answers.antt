use Rattle.std.proofs.Common.{rules, refl, ◌≡◌, ◌∙◌, ◌++◌, ◌∷◌, [], List, Option, Some, None, false, cond, take, length, ◌+◌, ◌-◌, ◌≤◌, ap, sym, subst, arith}
use Rattle.dg_base.specs.declared.ids.Endpoint.{Endpoint}
use Rattle.dg_base.specs.declared.answer.Answer.{Answer}
use Rattle.dg_base.specs.Order.{is_end_among}
use Rattle.dg_base.specs.Rule.{named_by}
use Rattle.dg_base.specs.Value.{answer_by, productions_by, value_at}
use Rattle.dg_base.specs.Evaluation.{evaluated}
use Rattle.dg_walks.proofs.Growing.{begins-same, begins-then}
use Rattle.dg_cache.specs.declared.entry.Entry.{Entry}
use Rattle.dg_cache.specs.Entries.{ends_of}
use Rattle.dg_eval.specs.declared.frame.Frame.{Frame}
use Rattle.dg_offer.specs.Offers.{AreValues}
use Rattle.dg_eval.specs.Results.{so_far}
use Rattle.dg_eval.specs.Frames.{ends_open, opened, answer_met, hits_after, frames_after, ends_after}
use Rattle.dg_eval.proofs.Frames.{frame_enough, named_there, next_needed}
use Rattle.dg_eval.proofs.Entries.{value_in-right}
use Rattle.dg_eval.proofs.Rounds.{Going, finished, looked, last, going-is, dependent, new_result, way_dropped, ends_looked, ends_push, all_done}
use Rattle.dg_eval.proofs.FirstLook.{begun, at_end, met_value, met_walk}
use Rattle.dg_eval.proofs.Measures.{todo, todo-finished, todo-looked, todo-is, in_reach}
use Rattle.dg_eval.proofs.Counts.{counted-all, counted-most, counted-push, counted_round, listed_so_far}
use Rattle.dg_eval.proofs.evaluating.evaluate.Goals as goal

pub returns-in-Some-clause-answer : goal.returns-in-Some-clause-answer
returns-in-Some-clause-answer g c =
    met_value g.S.Schema.tables c.args.graph.now c.args.known.now c.args.results.now c.args.hits.now c.args.at c.requires.known c.requires.results c.in-Some.answer (search rules)

pub returns-in-Some-clause-walk : goal.returns-in-Some-clause-walk
returns-in-Some-clause-walk g c =
    let hits_is : c.look.new.hits ≡ hits_after false c.args.results.now c.args.known.now c.args.hits.now c.args.at = search rules in
    ap (so_far c.args.results.now) hits_is
    ∙ met_walk g.S.Schema.tables c.args.graph.now c.args.known.now c.args.results.now c.args.hits.now c.args.at c.in-Some.answer (search rules)

pub returns-in-Some-clause-made : goal.returns-in-Some-clause-made
returns-in-Some-clause-made g c =
    let hits_is : c.look.new.hits ≡ hits_after false c.args.results.now c.args.known.now c.args.hits.now c.args.at = search rules in
    let walk =
    ap (so_far c.args.results.now) hits_is
    ∙ met_walk g.S.Schema.tables c.args.graph.now c.args.known.now c.args.results.now c.args.hits.now c.args.at c.in-Some.answer (search rules) in
    counted-all g.S.Schema.tables c.args.graph.now (ends_of c.args.known.now) (so_far c.args.results.now c.args.hits.now) c.args.at c.args.made.now c.args.made.now
    (so_far c.args.results.now c.look.new.hits) walk refl

pub returns-in-Some-clause-steps : goal.returns-in-Some-clause-steps
returns-in-Some-clause-steps g c =
    let hits_is : c.look.new.hits ≡ hits_after false c.args.results.now c.args.known.now c.args.hits.now c.args.at = search rules in
    let walk =
    ap (so_far c.args.results.now) hits_is
    ∙ met_walk g.S.Schema.tables c.args.graph.now c.args.known.now c.args.results.now c.args.hits.now c.args.at c.in-Some.answer (search rules) in
    counted-all g.S.Schema.tables c.args.graph.now (ends_of c.args.known.now) (so_far c.args.results.now c.args.hits.now) c.args.at c.args.steps.now c.args.steps.now
    (so_far c.args.results.now c.look.new.hits) walk refl

pub loop-frame-init : goal.loop-frame-init
loop-frame-init g c =
    let stack : c.push.new.self.items ≡ opened g.S.Schema.tables c.args.graph.now c.args.at ∷ [] =
    c.in_ok-push.ensures.items ∙ ap (λ (z : List Frame). z ++ c.in_ok-open.field-0 ∷ []) c.new-stack.ensures.items ∙ ap (λ (z : Frame). z ∷ []) c.in_ok-open.ensures in
    let hits_is : c.look.new.hits ≡ hits_after false c.args.results.now c.args.known.now c.args.hits.now c.args.at = search rules in
    let way_is : c.note.new.self ≡ c.args.at ∷ [] = c.in_ok-note.ensures.ok ∙ ap (λ (z : List Endpoint). cond (is_end_among z c.args.at) z (z ++ c.args.at ∷ [])) c.new-way.ensures in
    record {
      going = going-is (begun g.S.Schema.tables c.args.graph.now c.args.known.now c.args.results.now c.args.hits.now c.args.at c.requires.results (search rules)) stack refl hits_is;
      way = way_is ∙ ap ends_open (sym stack);
      kept = begins-same c.args.results.now;
      steps = refl;
      made = refl;
    }

pub returns-in_err-answer-in-Some-next-clause-most : goal.returns-in_err-answer-in-Some-next-clause-most
returns-in_err-answer-in-Some-next-clause-most g c =
    counted-most g.S.Schema.tables c.args.graph.now (ends_of c.args.known.now) (so_far c.args.results.now c.args.hits.now) c.args.at c.args.steps.now c.loop-frame.steps (ends_of c.loop-frame.results)
    (listed_so_far g.S.Schema.tables c.args.graph.now c.loop-frame.invariant.going) c.loop-frame.invariant.steps

pub returns-in_err-go_on-in-Some-next-clause-most : goal.returns-in_err-go_on-in-Some-next-clause-most
returns-in_err-go_on-in-Some-next-clause-most g c =
    counted-most g.S.Schema.tables c.args.graph.now (ends_of c.args.known.now) (so_far c.args.results.now c.args.hits.now) c.args.at c.args.steps.now c.loop-frame.steps (ends_of c.loop-frame.results)
    (listed_so_far g.S.Schema.tables c.args.graph.now c.loop-frame.invariant.going) c.loop-frame.invariant.steps

pub loop-frame-preserved-in_ok-go_on-in-Some-next : goal.loop-frame-preserved-in_ok-go_on-in-Some-next
loop-frame-preserved-in_ok-go_on-in-Some-next g c =
    let t = g.S.Schema.tables in
    let fs = c.pop.new.self.items in
    let f = c.in-Some-pop.frame in
    let results = c.loop-frame.results in
    let going = going-is c.loop-frame.invariant.going (sym c.in-Some-pop.ensures.items) refl refl in
    let next = looked c.is_sound.ensures g.met.S.Schema.laws fs f going c.in-Some-next.end (sym c.in-Some-next.ensures) c.requires.known in
    let way : c.has-open.result ≡ is_end_among (ends_open c.pop.new.self.items ++ c.in-Some-pop.frame.at ∷ []) c.in-Some-next.end =
    c.has-open.ensures ∙ ap (λ (z : List Endpoint). is_end_among z c.in-Some-next.end) (c.loop-frame.invariant.way ∙ ap ends_open c.in-Some-pop.ensures.items ∙ ends_push c.pop.new.self.items c.in-Some-pop.frame) in
    let answer : c.in_ok-answer-in-Some-next.answer ≡ answer_met c.has-open.result c.loop-frame.results c.args.known.now c.in-Some-next.end = search rules in
    let hits : c.look-in-Some-next.new.hits ≡ hits_after c.has-open.result c.loop-frame.results c.args.known.now c.loop-frame.hits c.in-Some-next.end = search rules in
    let met = answer ∙ ap (λ b. answer_met b results c.args.known.now c.in-Some-next.end) way in
    let stack_is = c.in_ok-go_on-in-Some-next.ensures.stack ∙ ap (λ (z : Option Answer). fs ++ frames_after t c.args.graph.now f c.in-Some-next.end z) met in
    record {
      going = going-is next stack_is refl (hits ∙ ap (λ b. hits_after b results c.args.known.now c.loop-frame.hits c.in-Some-next.end) way);
      way =
          c.in_ok-go_on-in-Some-next.ensures.way
          ∙ ap (λ (z : Option Answer). ends_after c.loop-frame.way c.in-Some-next.end z) met
          ∙ ap (λ (z : List Endpoint). ends_after z c.in-Some-next.end (answer_met (is_end_among (ends_open fs ++ f.at ∷ []) c.in-Some-next.end) results c.args.known.now c.in-Some-next.end)) (c.loop-frame.invariant.way ∙ ap ends_open c.in-Some-pop.ensures.items)
          ∙ ends_looked t c.args.graph.now fs f results c.args.known.now c.in-Some-next.end
          ∙ ap ends_open (sym stack_is);
      kept = c.loop-frame.invariant.kept;
      steps = c.loop-frame.invariant.steps;
      made = c.loop-frame.invariant.made;
    }

pub answer_from-requires : goal.answer_from-requires
answer_from-requires g c =
    let going = going-is c.loop-frame.invariant.going (sym c.in-Some-pop.ensures.items) refl refl in
    let slice : c.in-Some-pop.frame.answers ≡ c.as_slice-answers.result.now = search rules in
    subst (λ (z : List Answer). length (named_by c.in-Some-pop.frame.rule) ≡ length z) slice (
    frame_enough (last c.is_sound.ensures g.met.S.Schema.laws c.pop.new.self.items c.in-Some-pop.frame going) (sym c.in-None.ensures))

pub returns-in_err-answer-in-None-clause-most : goal.returns-in_err-answer-in-None-clause-most
returns-in_err-answer-in-None-clause-most g c =
    let t = g.S.Schema.tables in
    let graph = c.args.graph.now in
    let fs = c.pop.new.self.items in
    let f = c.in-Some-pop.frame in
    let going = going-is c.loop-frame.invariant.going (sym c.in-Some-pop.ensures.items) refl refl in
    let slice : f.answers ≡ c.as_slice-answers.result.now = search rules in
    let named = sym slice ∙ named_there (last c.is_sound.ensures g.met.S.Schema.laws fs f going) (sym c.in-None.ensures) in
    counted_round t graph c.is_sound.ensures g.met.S.Schema.laws (so_far c.args.results.now c.args.hits.now) c.args.at fs f going (sym c.in-None.ensures) c.args.steps.now c.loop-frame.steps c.answer_from.new.steps
    c.loop-frame.invariant.steps (c.answer_from.ensures.most (value_at t graph) named)

pub push-requires-in-None : goal.push-requires-in-None
push-requires-in-None g c =
    new_result c.is_sound.ensures g.met.S.Schema.laws c.pop.new.self.items c.in-Some-pop.frame (going-is c.loop-frame.invariant.going (sym c.in-Some-pop.ensures.items) refl refl)

pub returns-in_err-push-in-None-clause-right : goal.returns-in_err-push-in-None-clause-right
returns-in_err-push-in-None-clause-right g c =
    let same : c.push-in-None.new.self ≡ c.loop-frame.results = search rules in
    subst (AreValues g.S.Schema.tables c.args.graph.now) (sym same) c.loop-frame.invariant.going.right

pub returns-in_err-push-in-None-clause-most : goal.returns-in_err-push-in-None-clause-most
returns-in_err-push-in-None-clause-most g c =
    let t = g.S.Schema.tables in
    let graph = c.args.graph.now in
    let fs = c.pop.new.self.items in
    let f = c.in-Some-pop.frame in
    let going = going-is c.loop-frame.invariant.going (sym c.in-Some-pop.ensures.items) refl refl in
    let slice : f.answers ≡ c.as_slice-answers.result.now = search rules in
    let named = sym slice ∙ named_there (last c.is_sound.ensures g.met.S.Schema.laws fs f going) (sym c.in-None.ensures) in
    counted_round t graph c.is_sound.ensures g.met.S.Schema.laws (so_far c.args.results.now c.args.hits.now) c.args.at fs f going (sym c.in-None.ensures) c.args.steps.now c.loop-frame.steps c.answer_from.new.steps
    c.loop-frame.invariant.steps (c.answer_from.ensures.most (value_at t graph) named)

pub loop-frame-preserved : goal.loop-frame-preserved
loop-frame-preserved g c =
    let t = g.S.Schema.tables in
    let graph = c.args.graph.now in
    let fs = c.pop.new.self.items in
    let f = c.in-Some-pop.frame in
    let a = c.in_ok-answer-in-None.answer in
    let going = going-is c.loop-frame.invariant.going (sym c.in-Some-pop.ensures.items) refl refl in
    let isf = last c.is_sound.ensures g.met.S.Schema.laws fs f going in
    let slice : f.answers ≡ c.as_slice-answers.result.now = search rules in
    let named = sym slice ∙ named_there isf (sym c.in-None.ensures) in
    let done = finished c.is_sound.ensures g.met.S.Schema.laws fs f going (sym c.in-None.ensures) a (c.in_ok-answer-in-None.ensures.answer (value_at t graph) named) in
    let results : c.push-in-None.new.self ≡ c.loop-frame.results ++ record { at = c.in-Some-pop.frame.at; value = c.in_ok-answer-in-None.answer } ∷ [] = search rules in
    record {
      going = going-is done refl results refl;
      way =
          c.drop_last.ensures
          ∙ ap (λ (z : List Endpoint). take (length z - 1) z) (c.loop-frame.invariant.way ∙ ap ends_open c.in-Some-pop.ensures.items)
          ∙ way_dropped c.is_sound.ensures g.met.S.Schema.laws fs f going;
      kept = begins-then c.args.results.now c.loop-frame.results c.push-in-None.new.self c.loop-frame.invariant.kept (record { at = f.at; value = a } ∷ [], results);
      steps = counted-push t graph isf (ends_of c.args.results.now) c.loop-frame.results c.push-in-None.new.self a c.args.steps.now c.loop-frame.steps c.answer_from.new.steps results
          (c.in_ok-answer-in-None.ensures.steps (value_at t graph) named) c.loop-frame.invariant.steps;
      made = counted-push t graph isf (ends_of c.args.results.now) c.loop-frame.results c.push-in-None.new.self a c.args.made.now c.loop-frame.made c.in_ok-total-in-None.total results
          (c.in_ok-total-in-None.ensures ∙ ap (λ n. c.loop-frame.made + n) (c.in_ok-more-in-None.ensures (value_at t graph) named)) c.loop-frame.invariant.made;
    }

pub loop-frame-smaller-in_ok-go_on-in-Some-next : goal.loop-frame-smaller-in_ok-go_on-in-Some-next
loop-frame-smaller-in_ok-go_on-in-Some-next g c =
    let t = g.S.Schema.tables in
    let fs = c.pop.new.self.items in
    let f = c.in-Some-pop.frame in
    let d = c.in-Some-next.end in
    let results = c.loop-frame.results in
    let graph = c.args.graph.now in
    let going = going-is c.loop-frame.invariant.going (sym c.in-Some-pop.ensures.items) refl refl in
    let isf = last c.is_sound.ensures g.met.S.Schema.laws fs f going in
    let needed = next_needed isf d (sym c.in-Some-next.ensures) in
    let there = in_reach t graph c.args.at f.at d (dependent c.is_sound.ensures g.met.S.Schema.laws f.at d needed) needed in
    let less = todo-looked t graph c.args.at fs f results c.args.known.now d (sym c.in-Some-next.ensures) there in
    let way : c.has-open.result ≡ is_end_among (ends_open c.pop.new.self.items ++ c.in-Some-pop.frame.at ∷ []) c.in-Some-next.end =
    c.has-open.ensures ∙ ap (λ (z : List Endpoint). is_end_among z c.in-Some-next.end) (c.loop-frame.invariant.way ∙ ap ends_open c.in-Some-pop.ensures.items ∙ ends_push c.pop.new.self.items c.in-Some-pop.frame) in
    let answer : c.in_ok-answer-in-Some-next.answer ≡ answer_met c.has-open.result c.loop-frame.results c.args.known.now c.in-Some-next.end = search rules in
    todo-is t graph c.args.at (fs ++ frames_after t graph f d (answer_met (is_end_among (ends_open fs ++ f.at ∷ []) d) results c.args.known.now d)) c.go_on.new.stack.items (fs ++ f ∷ []) c.loop-frame.stack.items results results results less
    (c.in_ok-go_on-in-Some-next.ensures.stack ∙ ap (λ (z : Option Answer). fs ++ frames_after t graph f d z) (answer ∙ ap (λ b. answer_met b results c.args.known.now d) way)) refl c.in-Some-pop.ensures.items

pub loop-frame-smaller : goal.loop-frame-smaller
loop-frame-smaller g c =
    let results : c.push-in-None.new.self ≡ c.loop-frame.results ++ record { at = c.in-Some-pop.frame.at; value = c.in_ok-answer-in-None.answer } ∷ [] = search rules in
    todo-is g.S.Schema.tables c.args.graph.now c.args.at c.pop.new.self.items c.pop.new.self.items (c.pop.new.self.items ++ c.in-Some-pop.frame ∷ []) c.loop-frame.stack.items (c.loop-frame.results ++ record { at = c.in-Some-pop.frame.at; value = c.in_ok-answer-in-None.answer } ∷ []) c.push-in-None.new.self c.loop-frame.results
    (todo-finished g.S.Schema.tables c.args.graph.now c.args.at c.pop.new.self.items c.in-Some-pop.frame c.loop-frame.results c.in_ok-answer-in-None.answer) refl results c.in-Some-pop.ensures.items

pub finished-requires : goal.finished-requires
finished-requires g c =
    at_end g.S.Schema.tables c.args.graph.now c.args.known.now c.args.results.now c.args.hits.now c.args.at (search rules) (search rules) c.loop-frame.invariant.going

pub returns-in_err-finished-clause-most : goal.returns-in_err-finished-clause-most
returns-in_err-finished-clause-most g c =
    counted-most g.S.Schema.tables c.args.graph.now (ends_of c.args.known.now) (so_far c.args.results.now c.args.hits.now) c.args.at c.args.steps.now c.loop-frame.steps (ends_of c.loop-frame.results)
    (listed_so_far g.S.Schema.tables c.args.graph.now c.loop-frame.invariant.going) c.loop-frame.invariant.steps

pub returns-clause-answer : goal.returns-clause-answer
returns-clause-answer g c =
    value_in-right g.S.Schema.tables c.args.graph.now c.loop-frame.results c.args.at _ c.loop-frame.invariant.going.right c.in_ok-finished.ensures

pub returns-clause-steps : goal.returns-clause-steps
returns-clause-steps g c =
    counted-all g.S.Schema.tables c.args.graph.now (ends_of c.args.known.now) (so_far c.args.results.now c.args.hits.now) c.args.at c.args.steps.now c.loop-frame.steps
    (so_far c.loop-frame.results c.loop-frame.hits) (all_done c.loop-frame.invariant.going (search rules)) c.loop-frame.invariant.steps

pub returns-clause-made : goal.returns-clause-made
returns-clause-made g c =
    counted-all g.S.Schema.tables c.args.graph.now (ends_of c.args.known.now) (so_far c.args.results.now c.args.hits.now) c.args.at c.args.made.now c.loop-frame.made
    (so_far c.loop-frame.results c.loop-frame.hits) (all_done c.loop-frame.invariant.going (search rules)) c.loop-frame.invariant.made

pub returns-clause-most : goal.returns-clause-most
returns-clause-most g c =
    counted-most g.S.Schema.tables c.args.graph.now (ends_of c.args.known.now) (so_far c.args.results.now c.args.hits.now) c.args.at c.args.steps.now c.loop-frame.steps (ends_of c.loop-frame.results)
    (listed_so_far g.S.Schema.tables c.args.graph.now c.loop-frame.invariant.going) c.loop-frame.invariant.steps

pub productions_by-requires : goal.productions_by-requires
productions_by-requires g c =
    let going = going-is c.loop-frame.invariant.going (sym c.in-Some-pop.ensures.items) refl refl in
    let slice : c.in-Some-pop.frame.answers ≡ c.as_slice-answers.result.now = search rules in
    subst (λ (z : List Answer). length (named_by c.in-Some-pop.frame.rule) ≡ length z) slice (
    frame_enough (last c.is_sound.ensures g.met.S.Schema.laws c.pop.new.self.items c.in-Some-pop.frame going) (sym c.in-None.ensures))

pub returns-in_err-more-in-None-clause-most : goal.returns-in_err-more-in-None-clause-most
returns-in_err-more-in-None-clause-most g c =
    counted-most g.S.Schema.tables c.args.graph.now (ends_of c.args.known.now) (so_far c.args.results.now c.args.hits.now) c.args.at c.args.steps.now c.loop-frame.steps (ends_of c.loop-frame.results)
    (listed_so_far g.S.Schema.tables c.args.graph.now c.loop-frame.invariant.going) c.loop-frame.invariant.steps

pub returns-in_err-total-in-None-clause-most : goal.returns-in_err-total-in-None-clause-most
returns-in_err-total-in-None-clause-most g c =
    counted-most g.S.Schema.tables c.args.graph.now (ends_of c.args.known.now) (so_far c.args.results.now c.args.hits.now) c.args.at c.args.steps.now c.loop-frame.steps (ends_of c.loop-frame.results)
    (listed_so_far g.S.Schema.tables c.args.graph.now c.loop-frame.invariant.going) c.loop-frame.invariant.steps
