use Rattle.std.proofs.Common.{◌≡◌, drop, get_or, ℕ, ◌+◌, true, cond, List, [], Bor, sym, ap, ◌∙◌}
use Rattle.std.specs.List.{list_any}
use Rattle.std.specs.BTreeMap.{is_at}
use Rattle.std.specs.Cmp.Lexicographic.{slice_cmp}
use Rattle.std.specs.Ordering.{nat_cmp}
use Rattle.std.proofs.lemmas.List.{drop_more}
use Rattle.std.proofs.lemmas.Map.Text.{is_eq-slice_cmp}
use Rattle.std.specs.Str.{bytes_eq}
use Rattle.dg_kinds_go.proofs.EqualTexts.{repeats, seen_in, texts_of, was_seen, unseen, from_none, seen_before, seen_more}
use Rattle.dg_kinds_go.proofs.objects.has_equals.Goals as goal

abbrev bare : List ℕ → Bor (List ℕ)
bare text = record { ref_ptr = (0, 0); now = text }

pub loop-text-init : goal.loop-text-init
loop-text-init c =
    let all = texts_of c.args.texts.now in
    ap (λ ks. repeats (λ q. list_any (is_at (λ (k : Bor (List ℕ)). slice_cmp nat_cmp q k.now)) ks) all) c.new-seen.ensures.empty ∙ from_none all

pub returns-in-Ok-false : goal.returns-in-Ok-false
returns-in-Ok-false c =
    let all = c.args.texts.now in
    let i = c.loop-text.text-index in
    let old = seen_in c.loop-text.seen in
    seen_before old (get_or all i (bare [])).now (texts_of (drop (i + 1) all)) _
    (was_seen _ _ c.in-Ok-false.ensures.added c.in-Ok-false.field-0-test)
    (sym (ap (λ ts. repeats old (texts_of ts)) (drop_more all i (bare []) c.loop-text-test.true)) ∙ c.loop-text.invariant)

pub loop-text-preserved : goal.loop-text-preserved
loop-text-preserved c =
    let all = c.args.texts.now in
    let i = c.loop-text.text-index in
    let old = seen_in c.loop-text.seen in
    let text = (get_or all i (bare [])).now in
    let more : (q : List ℕ) → seen_in c.insert.new.self q ≡ cond (bytes_eq text q) true (old q) =
    λ q. c.in-Ok-true.ensures.updates.0 (bare q) ∙ ap (λ b. cond b true (old q)) (is_eq-slice_cmp text q) in
    seen_more old (seen_in c.insert.new.self) text (texts_of (drop (i + 1) all)) _
    (unseen _ _ c.in-Ok-true.ensures.added c.in-Ok-true.field-0-test) more
    (sym (ap (λ ts. repeats old (texts_of ts)) (drop_more all i (bare []) c.loop-text-test.true)) ∙ c.loop-text.invariant)
