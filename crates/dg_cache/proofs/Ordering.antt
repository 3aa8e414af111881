-- Entries in endpoint order: what is found there decides, and what a filter or one more makes of them.
use Rattle.std.proofs.Common.{◌≡◌, Bool, true, false, List, Option, Some, None, IsTrue, refl, sym, ap, ◌∙◌}
use Rattle.dg_base.specs.declared.ids.Endpoint.{Endpoint}
use Rattle.dg_base.specs.Order.{ends_rise, ordered}
use Rattle.dg_laws.proofs.Orders.{ordered-rise, ordered-among, ordered-is}
use Rattle.dg_laws.proofs.Ends.{ends_rank}
use Rattle.dg_cache.specs.declared.entry.Entry.{Entry}
use Rattle.dg_cache.specs.Entries.{ends_of, ends_once, entry_of, to_front, entries_at, in_order}
use Rattle.dg_cache.specs.Layout.{leaving}
use Rattle.dg_cache.proofs.Ends.{outside_one, rise_once, rise_filter}
use Rattle.dg_cache.proofs.Listing.{kept, ends-kept, entry_kept-in, entry_kept-out, at_agree, entry-at_all, own_entries, ends-at, among_agree, entry_front}

pub ends-in_order : (es : List Entry) → IsTrue (ends_once (ends_of es)) → ends_of (in_order es) ≡ ordered (ends_of es)
ends-in_order es once = ends-at (ordered (ends_of es)) es once (λ e k. sym (ordered-among ends_rank (ends_of es) e) ∙ k)

pub entry-in_order : (es : List Entry) (e : Endpoint) → entry_of e (in_order es) ≡ entry_of e es
entry-in_order es e = entry-at_all e (ordered (ends_of es)) es (rise_once (ordered (ends_of es)) (ordered-rise ends_rank (ends_of es))) (ordered-among ends_rank (ends_of es) e)

-- a list in endpoint order where the same is found
pub in_order-is : (out es : List Entry) → IsTrue (ends_rise (ends_of out)) → ((e : Endpoint) → entry_of e out ≡ entry_of e es) → out ≡ in_order es
in_order-is out es rise agree =
    sym (own_entries out (rise_once (ends_of out) rise))
    ∙ ap (λ (z : List Endpoint). entries_at z out) (ordered-is ends_rank (ends_of out) (ends_of es) rise (among_agree out es agree))
    ∙ at_agree (ordered (ends_of es)) out es (λ e k. agree e)

pub rise-in_order : (es : List Entry) → IsTrue (ends_once (ends_of es)) → IsTrue (ends_rise (ends_of (in_order es)))
rise-in_order es once = ap ends_rise (ends-in_order es once) ∙ ordered-rise ends_rank (ends_of es)

pub in_order-agree : (es fs : List Entry) → IsTrue (ends_once (ends_of es)) → ((e : Endpoint) → entry_of e es ≡ entry_of e fs) → in_order es ≡ in_order fs
in_order-agree es fs once agree = in_order-is (in_order es) fs (rise-in_order es once) (λ e. entry-in_order es e ∙ agree e)

pub in_order-same : (es : List Entry) → IsTrue (ends_rise (ends_of es)) → in_order es ≡ es
in_order-same es rise = sym (in_order-is es es rise (λ e. refl))

pub rise-kept : (p : Endpoint → Bool) (es : List Entry) → IsTrue (ends_rise (ends_of es)) → IsTrue (ends_rise (ends_of (kept p es)))
rise-kept p es rise = ap ends_rise (ends-kept p es) ∙ rise_filter p (ends_of es) rise

pub in_order-kept : (p : Endpoint → Bool) (es : List Entry) → IsTrue (ends_once (ends_of es)) → kept p (in_order es) ≡ in_order (kept p es)
in_order-kept p es once = in_order-is (kept p (in_order es)) (kept p es) (rise-kept p (in_order es) (rise-in_order es once)) (λ e. by_test e (p e) refl)
  where
    by_test : (e : Endpoint) (b : Bool) → p e ≡ b → entry_of e (kept p (in_order es)) ≡ entry_of e (kept p es)
    by_test e true is = entry_kept-in p e (in_order es) is ∙ entry-in_order es e ∙ sym (entry_kept-in p e es is)
    by_test e false is = entry_kept-out p e (in_order es) is ∙ sym (entry_kept-out p e es is)

pub in_order-front : (e : Endpoint) (es : List Entry) → IsTrue (ends_once (ends_of es)) → in_order es ≡ in_order (to_front e es)
in_order-front e es once = in_order-agree es (to_front e es) once (λ x. sym (entry_front e es x))

-- the entries without those of an endpoint, if one is named, stay in order
pub rise-leaving : (gone : Option Endpoint) (es : List Entry) → IsTrue (ends_rise (ends_of es)) → IsTrue (ends_rise (ends_of (leaving gone es)))
rise-leaving None es rise = rise
rise-leaving (Some e) es rise = rise-kept (outside_one e) es rise
