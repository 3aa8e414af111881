use Rattle.std.proofs.Common.{◌≡◌, ℕ, List, Bor, true, cond, ap, ◌∙◌}
use Rattle.std.specs.Str.{bytes_eq}
use Rattle.std.proofs.lemmas.Map.Text.{is_eq-slice_cmp}
use Rattle.dg_kinds_coll.specs.Collections.{has_text}
use Rattle.dg_kinds_coll.proofs.Sets.{put_text}
use Rattle.dg_kinds_coll.proofs.named.put_texts.Goals as goal

abbrev bare : List ℕ → Bor (List ℕ)
bare text = record { ref_ptr = (0, 0); now = text }

pub loop-text-preserved : goal.loop-text-preserved
loop-text-preserved c id =
    let text = c.text_in.result.now in
    let old = has_text c.loop-text.named id in
    let more : has_text c.insert.new.self id ≡ cond (bytes_eq text id) true old =
    c.in-Ok.ensures.updates.0 (bare id) ∙ ap (λ b. cond b true old) (is_eq-slice_cmp text id) in
    put_text c.args.texts.now c.loop-text.text-index c.text-item.result text id old _ _
    c.loop-text-test.true c.text-item.is c.text_in.ensures more (c.loop-text.invariant id)
