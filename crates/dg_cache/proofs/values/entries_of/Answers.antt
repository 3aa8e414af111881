use Rattle.std.proofs.Common.{◌++◌, ◌∷◌, [], sym, ap, ◌∙◌}
use Rattle.dg_cache.specs.Layout.{entries_from}
use Rattle.dg_cache.proofs.Listing.{taken_one, taken_all}
use Rattle.dg_cache.proofs.values.entries_of.Goals as goal
use Rattle.dg_cache.proofs.values.entries_of.Goals.{in-Some+in_ok-push, in_default}

pub loop-place-preserved : goal.loop-place-preserved
loop-place-preserved c = elim c.match-branch-3.branch [
  | in-Some+in_ok-push w ↦
      ap (λ v. v.items) w.entries-is ∙ w.in_ok-push.ensures.items ∙ ap (λ z. z ++ w.in-Some.entry ∷ []) c.loop-place.invariant
      ∙ sym (taken_one (entries_from c.args.values.now) c.loop-place.place w.in-Some.entry (sym c.in_ok-entry.ensures ∙ w.in-Some.is))
  | in_default w ↦
      ap (λ v. v.items) w.entries-is ∙ c.loop-place.invariant
      ∙ sym (taken_all (entries_from c.args.values.now) c.loop-place.place (sym c.in_ok-entry.ensures ∙ w.in_default.is))
]
