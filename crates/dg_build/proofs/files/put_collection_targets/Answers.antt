use Rattle.std.proofs.Common.{◌∙◌, ap, map, Bor, List, ℕ}
use Rattle.std.specs.Str.{bytes_eq}
use Rattle.dg_build.specs.Firsts.{firsts}
use Rattle.dg_build.specs.Entries.{entry_of}
use Rattle.dg_build.proofs.Wholes.{collection_put}
use Rattle.dg_build.proofs.files.put_collection_targets.Goals as goal

pub returns : goal.returns
returns c =
    collection_put c.args.stem.now c.args.built.now (map entry_of c.args.entries.now) _ _ _ _ _ _
    (c.in_ok-texts.ensures ∙ ap (λ (v : List (Bor (List ℕ))). firsts bytes_eq (map (λ t. t.now) v)) c.as_slice.ensures.value ∙ ap (firsts bytes_eq) c.in_ok-every.ensures)
    c.in_ok-put_object_targets.ensures c.in_ok-path.ensures c.in_ok-text.ensures c.in_ok-put_target.ensures
