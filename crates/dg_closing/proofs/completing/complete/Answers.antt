use Rattle.std.proofs.Common.{◌≡◌, ◌≤◌, ◌<◌, Bool, List, length, slice_get, sym, ap, ◌∙◌, subst, arith}
use Rattle.std.proofs.lemmas.List.{length-map, take_all}
use Rattle.std.proofs.lemmas.Option.{slice_get-map}
use Rattle.std.specs.Option.{option_map}
use Rattle.dg_line.specs.Revisions.{Seen}
use Rattle.dg_line.specs.Tickets.{Pin}
use Rattle.dg_desk.specs.Machine.{Event}
use Rattle.dg_asks.specs.declared.asking.Asking.{Asking}
use Rattle.dg_asks.specs.Asks.{asking_ask}
use Rattle.dg_asks.specs.Told.{AreUnrefused}
use Rattle.dg_closing.specs.Closing.{AreToldWhere, asks_of}
use Rattle.dg_closing.proofs.Growing.{desk-seen, evictions-same, follows-same, grown-on, told-all, told-below-on, told-kept, where-grown}
use Rattle.dg_closing.proofs.Lists.{asks-next, if-some, slice-at}
use Rattle.dg_closing.proofs.completing.complete.Goals as goal

pub loop-number-init : goal.loop-number-init
loop-number-init g c = record {
  answers = c.new-answers.ensures.items;
  grown = c.in_ok-settle_at.ensures.grown;
  now = c.in_ok-settle_at.ensures.now;
  told = λ k a less ask. absurd (omega (arith, less));
  flags = subst (λ (l : List (Event Seen g.row.N-Mark.Denot)). AreToldWhere l c.in_ok-told.told.items (asks_of c.args.asked.now)) c.history-2.ensures c.in_ok-told.ensures;
  unrefused = c.in_ok-settle_at.ensures.unrefused (subst (λ (l : List (Event Seen g.row.N-Mark.Denot)). AreUnrefused l) c.history.ensures (c.are_unrefused.ensures c.if-not-are_unrefused.false));
  steps = omega arith;
}

pub answered-requires-clause-told : goal.answered-requires-clause-told
answered-requires-clause-told g c =
    let k = c.loop-number.number in
    let count = c.in-Ok.ensures in let less = c.loop-number-test.true in
    let below : k < length c.args.asked.now = omega (arith, count, less) in
    let ask = slice_get-map asking_ask c.args.asked.now k ∙ ap (option_map asking_ask) (slice-at c.args.asked.now k c.index-asked-number.result c.index-asked-number.is below) in
    told-kept c.kept_for-kept.result c.loop-number.desk.history c.in_ok-told.told.items (asks_of c.args.asked.now) k (asking_ask c.index-asked-number.result)
    (if-some c.kept_for-kept.result c.kept_for-kept.ensures.told (λ h flag. ap (λ (l : List Bool). slice_get l k) (sym c.deref-in-loop-number.ensures.value) ∙ flag))
    c.loop-number.invariant.flags ask

pub loop-number-preserved : goal.loop-number-preserved
loop-number-preserved g c =
    let k = c.loop-number.number in let d = c.loop-number.desk in let v = c.answered.new.desk in
    let asks = asks_of c.args.asked.now in let x = c.index-asked-number.result in
    let count = c.in-Ok.ensures in let less = c.loop-number-test.true in
    let below : k < length c.args.asked.now = omega (arith, count, less) in
    let ask = slice_get-map asking_ask c.args.asked.now k ∙ ap (option_map asking_ask) (slice-at c.args.asked.now k x c.index-asked-number.is below) in
    let inv = c.loop-number.invariant in let done = c.in_ok-answer.ensures.done in
    record {
      answers = asks-next c.args.asked.now k x c.in_ok-answer.answer c.loop-number.answers.items c.push.new.self.items c.index-asked-number.is below c.in_ok-answer.ensures.answer inv.answers c.in_ok-push.ensures.items;
      grown = grown-on c.args.desk.now d v inv.grown done.grown;
      now = ap (λ (p : Pin Seen g.row.N-Mark.Denot). p.revision) done.now ∙ inv.now;
      told = told-below-on d v k asks (asking_ask x) ask inv.told done.grown done.told;
      flags = where-grown d v c.in_ok-told.told.items asks done.grown inv.flags;
      unrefused = done.unrefused inv.unrefused;
      steps = let made = c.in_ok-answer.ensures.made in let before = inv.steps in omega (arith, made, before);
    }

pub returns-clause-answers : goal.returns-clause-answers
returns-clause-answers g c =
    let count = c.in-Ok.ensures in let last = c.loop-number-test.false in
    let end : length c.args.asked.now ≤ c.loop-number.number = omega (arith, count, last) in
    c.loop-number.invariant.answers ∙ ap (λ (l : List (Asking g.row.N-Mark.Denot Seen)). asks_of l) (take_all c.loop-number.number c.args.asked.now end)

pub returns-clause-coherent : goal.returns-clause-coherent
returns-clause-coherent g c = desk-seen g.N.Mark.Mark.seen c.requires.tables c.requires.seen c.loop-number.desk c.is_desk.ensures

pub returns-clause-follows : goal.returns-clause-follows
returns-clause-follows g c = follows-same c.args.desk.now c.loop-number.desk c.loop-number.invariant.grown

pub returns-clause-evictions : goal.returns-clause-evictions
returns-clause-evictions g c = evictions-same c.args.desk.now c.loop-number.desk c.loop-number.invariant.grown

pub returns-clause-told : goal.returns-clause-told
returns-clause-told g c =
    let count = c.in-Ok.ensures in let last = c.loop-number-test.false in
    let long : length (asks_of c.args.asked.now) ≡ length c.args.asked.now = length-map c.args.asked.now asking_ask in
    let end : length (asks_of c.args.asked.now) ≤ c.loop-number.number = omega (arith, count, last, long) in
    told-all c.loop-number.desk.history c.loop-number.number (asks_of c.args.asked.now) end c.loop-number.invariant.told
