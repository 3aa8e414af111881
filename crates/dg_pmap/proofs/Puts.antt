-- A pair put into one half is put into the whole.
use Rattle.std.proofs.Common.{◌≡◌, ℕ, ◌+◌, ◌≤◌, Bool, true, false, Some, List, ◌++◌, length, Result, Ok, Err, sym, ap, ◌∙◌, arith, length-append}
use Rattle.std.specs.Option.{is_some}
use Rattle.std.specs.Cmp.{IsTotalOrder}
use Rattle.std.specs.List.Sorted.{IsStrictlySortedBy}
use Rattle.std.specs.Map.{keys_of, lookup}
use Rattle.std.specs.BTreeMap.{is_at, insert_entry}
use Rattle.std.specs.Ordering.{is_lt}
use Rattle.std.specs.declared.cmp.Ordering.{Ordering}
use Rattle.dg_pmap.specs.Edits.{Places}
use Rattle.dg_pmap.proofs.Splits.{IsSplit, insert_entry-low, insert_entry-high, lookup-low, lookup-high, length-insert_entry-le, first_key-insert}
use Rattle.dg_pmap.specs.Firsts.{first_key_of}

module _ {K X : Type 0} (cmp : K → K → Ordering) (o : IsTotalOrder cmp) (q : K) (v : X) (all low : List (K × X)) (k : K) (high : List (K × X)) (s : IsSplit all low k high) (sorted : IsStrictlySortedBy cmp (keys_of all)) where
  pub places-low : is_lt (cmp q k) ≡ true → (r : Result Bool X) (low' : List (K × X)) → Places cmp low q v r low' → Places cmp all q v r (low' ++ high)
  places-low h (Ok there) low' p = (ap (λ l. l ++ high) p.0 ∙ sym (insert_entry-low cmp q v all low k high s h), p.1 ∙ ap is_some (sym (lookup-low cmp o q all low k high s sorted h)))
  places-low h (Err back) low' p = (ap (λ l. l ++ high) p.0 ∙ s.is, p.1, ap is_some (lookup-low cmp o q all low k high s sorted h) ∙ p.2)

  pub places-high : is_lt (cmp q k) ≡ false → (r : Result Bool X) (high' : List (K × X)) → Places cmp high q v r high' → Places cmp all q v r (low ++ high')
  places-high h (Ok there) high' p = (ap (λ l. low ++ l) p.0 ∙ sym (insert_entry-high cmp o q v all low k high s sorted h), p.1 ∙ ap is_some (sym (lookup-high cmp o q all low k high s sorted h)))
  places-high h (Err back) high' p = (ap (λ l. low ++ l) p.0 ∙ s.is, p.1, ap is_some (lookup-high cmp o q all low k high s sorted h) ∙ p.2)

pub length-places : {K X : Type 0} (cmp : K → K → Ordering) (q : K) (v : X) (old : List (K × X)) (r : Result Bool X) (new : List (K × X)) → Places cmp old q v r new → length new ≤ length old + 1
length-places cmp q v old (Ok there) new p = rw p.0 (length-insert_entry-le cmp q v old)
length-places cmp q v old (Err back) new p = rw p.0 (omega arith)

pub first_key-places : {K X : Type 0} (cmp : K → K → Ordering) (q : K) (v : X) (k : K) (old : List (K × X)) (r : Result Bool X) (new : List (K × X)) → first_key_of old ≡ Some k → is_lt (cmp q k) ≡ false → Places cmp old q v r new → first_key_of new ≡ Some k
first_key-places cmp q v k old (Ok there) new f h p = ap first_key_of p.0 ∙ first_key-insert cmp q v k old f h
first_key-places cmp q v k old (Err back) new f h p = ap first_key_of p.0 ∙ f
