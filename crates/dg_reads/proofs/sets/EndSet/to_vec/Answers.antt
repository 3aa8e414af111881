use Rattle.std.proofs.Common.{◌≡◌, List, [], ◌∷◌, ◌++◌, append_assoc, sym, ap, ◌∙◌}
use Rattle.std.proofs.lemmas.List.{append-nil}
use Rattle.dg_base.specs.declared.ids.Endpoint.{Endpoint}
use Rattle.dg_reads.proofs.sets.EndSet.to_vec.Goals as goal

one_more : (xs ys rest after all : List Endpoint) (x : Endpoint) → ys ≡ xs ++ x ∷ [] → rest ≡ x ∷ after → xs ++ rest ≡ all → ys ++ after ≡ all
one_more xs ys rest after all x e f h = ap (λ (z : List Endpoint). z ++ after) e ∙ simp append_assoc (ap (λ (z : List Endpoint). xs ++ z) (sym f) ∙ h)

no_more : (xs rest all : List Endpoint) → rest ≡ [] → xs ++ rest ≡ all → xs ≡ all
no_more xs rest all e h = sym (append-nil xs) ∙ ap (λ (z : List Endpoint). xs ++ z) (sym e) ∙ h

pub loop-end-init : goal.loop-end-init
loop-end-init c =
    ap (λ (z : List Endpoint). z ++ c.into_iter-end-iterator.result) c.new-ends.ensures.items
    ∙ c.into_iter-end-iterator.ensures.into_iter_gives.0
    ∙ c.self.view_is

pub loop-end-preserved : goal.loop-end-preserved
loop-end-preserved c = one_more _ _ _ _ _ c.in-Some.end.now c.in_ok-push.ensures.items c.in-Some.ensures.steps c.loop-end.invariant

pub returns : goal.returns
returns c = no_more _ _ _ c.in-None.ensures.steps.0 c.loop-end.invariant
