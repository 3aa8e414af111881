-- What changes of a map make of its pairs, read as entries.
use Rattle.std.proofs.Common.{◌≡◌, Bool, true, false, not, cond, List, [], ◌∷◌, Option, Some, None, IsTrue, is_eq, is_lt, refl, sym, ap, ◌∙◌}
use Rattle.std.proofs.lemmas.Bool.{not_from_false, not_from_true}
use Rattle.std.specs.BTreeMap.{is_at, insert_entry}
use Rattle.std.specs.Map.{lookup, remove_entry}
use Rattle.std.specs.Ordering.{match_ordering}
use Rattle.std.specs.declared.cmp.Ordering.{Ordering}
use Rattle.std.specs.declared.cmp.Ordering.TheVariants.{Less, Equal, Greater}
use Rattle.dg_base.specs.declared.ids.Endpoint.{Endpoint}
use Rattle.dg_base.specs.declared.answer.Answer.{Answer}
use Rattle.dg_base.specs.Same.{same_end}
use Rattle.dg_base.specs.Order.{is_end_among, ends_rise, put_end}
use Rattle.dg_laws.proofs.Among.{same-swap}
use Rattle.dg_laws.proofs.Ends.{same_end-is, end_cmp, ends_tell, ends_rank, ends_compare}
use Rattle.dg_laws.proofs.Orders.{put_by-rise}
use Rattle.dg_pmap.proofs.Lookups.{lookup-insert_entry}
use Rattle.dg_cache.specs.declared.entry.Entry.{Entry}
use Rattle.dg_cache.specs.Entries.{ends_of, ends_once, pairs_of, entry_of, others, value_in, in_order}
use Rattle.dg_cache.specs.Layout.{entries_from}
use Rattle.dg_cache.proofs.Ends.{outside_one, once_head, once_tail, rise_once}
use Rattle.dg_cache.proofs.Listing.{entry_absent, entry_kept-in, entry_kept-out, others_same}
use Rattle.dg_cache.proofs.Ordering.{in_order-is}

at-same : (e x : Endpoint) → is_at (end_cmp e) x ≡ same_end e x
at-same e x = sym (ends_compare.tells_same e x)

pub pairs-back : (ps : List (Endpoint × Answer)) → pairs_of (entries_from ps) ≡ ps
pairs-back [] = refl
pairs-back (p ∷ ps) = ap (λ (z : List (Endpoint × Answer)). p ∷ z) (pairs-back ps)

pub value-found : (e : Endpoint) (ps : List (Endpoint × Answer)) → lookup (is_at (end_cmp e)) ps ≡ value_in (entries_from ps) e
value-found e [] = refl
value-found e (p ∷ ps) =
    ap (λ b. cond b (Some p.1) (lookup (is_at (end_cmp e)) ps)) (at-same e p.0) ∙ ap (λ r. cond (same_end e p.0) (Some p.1) r) (value-found e ps)

-- without an endpoint's pair
pub entries-removed : (e : Endpoint) (ps : List (Endpoint × Answer)) → IsTrue (ends_once (ends_of (entries_from ps))) → entries_from (remove_entry (is_at (end_cmp e)) ps) ≡ others e (entries_from ps)
entries-removed e [] once = refl
entries-removed e (p ∷ ps) once =
    ap (λ b. entries_from (cond b ps (p ∷ remove_entry (is_at (end_cmp e)) ps))) (at-same e p.0)
    ∙ by_test (same_end e p.0) refl (once_head p.0 (ends_of (entries_from ps)) once) (entries-removed e ps (once_tail p.0 (ends_of (entries_from ps)) once))
  where
    x : Entry
    x = record { at = p.0; value = p.1 }

    by_test : (b : Bool) → same_end e p.0 ≡ b → is_end_among (ends_of (entries_from ps)) p.0 ≡ false → entries_from (remove_entry (is_at (end_cmp e)) ps) ≡ others e (entries_from ps) →
        entries_from (cond b ps (p ∷ remove_entry (is_at (end_cmp e)) ps)) ≡ cond (not b) (x ∷ others e (entries_from ps)) (others e (entries_from ps))
    by_test true is absent rest = sym (others_same e (entries_from ps) (ap (is_end_among (ends_of (entries_from ps))) (same_end-is e p.0 is) ∙ absent))
    by_test false is absent rest = ap (λ (z : List Entry). x ∷ z) rest

-- ---- with a pair put

ends-inserted : (k : Endpoint) (v : Answer) (ps : List (Endpoint × Answer)) → ends_of (entries_from (insert_entry end_cmp ps k v)) ≡ put_end k (ends_of (entries_from ps))
ends-inserted k v [] = refl
ends-inserted k v (p ∷ ps) =
    by_order (end_cmp k p.0) (ends-inserted k v ps)
    ∙ ap (λ b. cond b (p.0 ∷ ends) (cond (is_lt (end_cmp k p.0)) (k ∷ p.0 ∷ ends) (p.0 ∷ put_end k ends))) (at-same k p.0)
    ∙ ap (λ b. cond (same_end k p.0) (p.0 ∷ ends) (cond b (k ∷ p.0 ∷ ends) (p.0 ∷ put_end k ends))) (ends_compare.tells_before k p.0)
  where
    ends : List Endpoint
    ends = ends_of (entries_from ps)

    by_order : (r : Ordering) → ends_of (entries_from (insert_entry end_cmp ps k v)) ≡ put_end k ends →
        ends_of (entries_from (match_ordering r ((k, v) ∷ p ∷ ps) ((p.0, v) ∷ ps) (p ∷ insert_entry end_cmp ps k v))) ≡ cond (is_eq r) (p.0 ∷ ends) (cond (is_lt r) (k ∷ p.0 ∷ ends) (p.0 ∷ put_end k ends))
    by_order Less rest = refl
    by_order Equal rest = refl
    by_order Greater rest = ap (λ (z : List Endpoint). p.0 ∷ z) rest

-- the entry of an endpoint is the one with its value
abbrev one_of : Endpoint → Option Answer → List Entry
one_of e None = []
one_of e (Some v) = record { at = e; value = v } ∷ []

entry-one : (e : Endpoint) (es : List Entry) → IsTrue (ends_once (ends_of es)) → entry_of e es ≡ one_of e (value_in es e)
entry-one e [] once = refl
entry-one e (x ∷ es) once = by_test (same_end e x.at) refl (once_head x.at (ends_of es) once) (entry-one e es (once_tail x.at (ends_of es) once))
  where
    by_test : (b : Bool) → same_end e x.at ≡ b → is_end_among (ends_of es) x.at ≡ false → entry_of e es ≡ one_of e (value_in es e) →
        cond b (x ∷ entry_of e es) (entry_of e es) ≡ one_of e (cond b (Some x.value) (value_in es e))
    by_test true is absent rest =
        let at : e ≡ x.at = same_end-is e x.at is in
        ap (λ (z : List Entry). x ∷ z) (entry_absent e es (ap (is_end_among (ends_of es)) at ∙ absent)) ∙ ap (λ (z : Endpoint). one_of z (Some x.value)) (sym at)
    by_test false is absent rest = rest

pub entries-inserted : (x : Entry) (ps : List (Endpoint × Answer)) → IsTrue (ends_rise (ends_of (entries_from ps))) →
    entries_from (insert_entry end_cmp ps x.at x.value) ≡ in_order (x ∷ others x.at (entries_from ps))
entries-inserted x ps rise = in_order-is (entries_from new) (x ∷ others x.at (entries_from ps)) risen (λ e. found e ∙ by_test e (same_end e x.at) refl)
  where
    new : List (Endpoint × Answer)
    new = insert_entry end_cmp ps x.at x.value

    risen : IsTrue (ends_rise (ends_of (entries_from new)))
    risen = ap ends_rise (ends-inserted x.at x.value ps) ∙ put_by-rise ends_rank x.at (ends_of (entries_from ps)) rise

    found : (e : Endpoint) → entry_of e (entries_from new) ≡ one_of e (cond (same_end e x.at) (Some x.value) (value_in (entries_from ps) e))
    found e =
        entry-one e (entries_from new) (rise_once (ends_of (entries_from new)) risen)
        ∙ ap (one_of e) (sym (value-found e new)
        ∙ lookup-insert_entry ends_compare.total x.at e x.value ps
        ∙ ap (λ b. cond b (Some x.value) (lookup (is_at (end_cmp e)) ps)) (at-same e x.at)
        ∙ ap (λ r. cond (same_end e x.at) (Some x.value) r) (value-found e ps))

    by_test : (e : Endpoint) (b : Bool) → same_end e x.at ≡ b →
        one_of e (cond (same_end e x.at) (Some x.value) (value_in (entries_from ps) e)) ≡ entry_of e (x ∷ others x.at (entries_from ps))
    by_test e true is =
        let at : e ≡ x.at = same_end-is e x.at is in
        ap (λ b. one_of e (cond b (Some x.value) (value_in (entries_from ps) e))) is
        ∙ ap (λ (z : Endpoint). one_of z (Some x.value)) at
        ∙ sym (ap (λ b. cond b (x ∷ entry_of e (others x.at (entries_from ps))) (entry_of e (others x.at (entries_from ps)))) is
        ∙ ap (λ (z : List Entry). x ∷ z) (entry_kept-out (outside_one x.at) e (entries_from ps) (not_from_true (same_end x.at e) (same-swap ends_tell x.at e ∙ is))))
    by_test e false is =
        ap (λ b. one_of e (cond b (Some x.value) (value_in (entries_from ps) e))) is
        ∙ sym (entry-one e (entries_from ps) (rise_once (ends_of (entries_from ps)) rise))
        ∙ sym (ap (λ b. cond b (x ∷ entry_of e (others x.at (entries_from ps))) (entry_of e (others x.at (entries_from ps)))) is
        ∙ entry_kept-in (outside_one x.at) e (entries_from ps) (not_from_false (same_end x.at e) (same-swap ends_tell x.at e ∙ is)))
