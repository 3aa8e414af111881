use Rattle.std.proofs.Common.{[], ◌∷◌, ◌++◌, sym, ap, ◌∙◌, subst}
use Rattle.dg_closing.specs.Closing.{AreToldWhere, asks_of}
use Rattle.dg_closing.proofs.Lists.{ok-any, on-ok}
use Rattle.dg_closing.proofs.Tellings.{spotted-more, spotted-same, where-later, where-set}
use Rattle.dg_closing.proofs.telling.read.Goals as goal
use Rattle.dg_closing.proofs.telling.read.Goals.{in-Some, in-None}

pub returns-after-told_by-clause-spots : goal.returns-after-told_by-clause-spots
returns-after-told_by-clause-spots g c =
    on-ok c.note_entries.result c.note_entries.ensures
    (λ new hs all. spotted-more g.N.Mark.Mark.seen hs c.args.event.now c.in-Publish.offer c.in-Publish.field-1 c.args.spots.now c.note_entries.new.self c.in-Publish.is new all)

pub returns-after-told_by-clause-told : goal.returns-after-told_by-clause-told
returns-after-told_by-clause-told g c =
    let asks = asks_of c.args.asked.now in
    ok-any c.note_entries.result (elim c.match-told_by.branch [
      | in-Some w ↦ λ hs all old.
          where-set g.N.Mark.Mark.seen c.requires.seen hs c.args.event.now c.in-Publish.offer c.in-Publish.field-1 c.args.spots.now c.args.told.now.items c.match-told_by.told.items asks w.in-Some.place
          c.in-Publish.is (ap (λ v. v.items) w.told-is ∙ w.mark.ensures) w.in-Some.ensures all old
      | in-None w ↦ λ hs all old.
          subst (λ v. AreToldWhere (hs ++ c.args.event.now ∷ []) v.items asks) (sym w.told-is) (where-later hs c.args.event.now c.args.told.now.items asks old)
    ])

pub returns-in_default : goal.returns-in_default
returns-in_default g c = record {
  spots = λ hs all. spotted-same g.N.Mark.Mark.seen hs c.args.event.now c.args.spots.now all;
  told = λ hs all old. where-later hs c.args.event.now c.args.told.now.items (asks_of c.args.asked.now) old;
}
