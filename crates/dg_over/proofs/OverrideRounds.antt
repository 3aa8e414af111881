-- One round of the loop over the nodes that get override nodes.
use Rattle.std.proofs.Common.{◌≡◌, ◌+◌, ◌<◌, ◌≤◌, ℕ, true, false, cond, List, ◌∷◌, Err, length, drop, get_or, nat_le, refl, ap, ◌∙◌, subst, add-one, drop-cons, arith}
use Rattle.std.proofs.lemmas.Bool.Decides.{nat_tests}
use Rattle.dg_base.specs.declared.ids.NodeId.{NodeId}
use Rattle.dg_base.specs.declared.step.TxCode.TheVariants as code
use Rattle.dg_base.specs.Tables.{Tables}
use Rattle.dg_base.specs.Sound.{max_nodes}
use Rattle.dg_base.specs.Progress.{Progress}
use Rattle.dg_base.specs.Populate.{override_all, MayOverride}
use Rattle.dg_laws.proofs.SoundOverrides.{overridden}

pub next_of : (ns : List NodeId) (i : ℕ) (d : NodeId) → i < length ns → drop i ns ≡ get_or ns i d ∷ drop (i + 1) ns
next_of ns i d lt = rw (add-one, drop-cons ns i d) refl

above : (n : ℕ) → max_nodes < n → nat_le n max_nodes ≡ false
above n lt = grind (arith, nat_tests)

upto : (n : ℕ) → n ≤ max_nodes → nat_le n max_nodes ≡ true
upto n le = grind (arith, nat_tests)

-- an id above the limit is refused
pub refused_at : (root : NodeId) (ns : List NodeId) (i : ℕ) (d : NodeId) (p : Progress) → i < length ns → max_nodes < p.next → override_all root (drop i ns) p ≡ Err code.TooManyNodes
refused_at root ns i d p lt over =
    ap (λ (z : List NodeId). override_all root z p) (next_of ns i d lt)
    ∙ ap (λ b. cond b (override_all root (drop (i + 1) ns) (overridden p root (get_or ns i d))) (Err code.TooManyNodes)) (above p.next over)

pub goes_on_at : (root : NodeId) (ns : List NodeId) (i : ℕ) (d : NodeId) (p : Progress) → i < length ns → p.next ≤ max_nodes →
    override_all root (drop i ns) p ≡ override_all root (drop (i + 1) ns) (overridden p root (get_or ns i d))
goes_on_at root ns i d p lt le =
    ap (λ (z : List NodeId). override_all root z p) (next_of ns i d lt)
    ∙ ap (λ b. cond b (override_all root (drop (i + 1) ns) (overridden p root (get_or ns i d))) (Err code.TooManyNodes)) (upto p.next le)

pub may_at : {t : Tables} {p : Progress} {root : NodeId} (ns : List NodeId) (i : ℕ) (d : NodeId) → i < length ns → MayOverride t p root (drop i ns) → MayOverride t p root (get_or ns i d ∷ drop (i + 1) ns)
may_at {t} {p} {root} ns i d lt m = subst (MayOverride t p root) (next_of ns i d lt) m
