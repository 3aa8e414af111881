use Rattle.std.proofs.Common.{◌∙◌, Some, slice_get, ap, sym}
use Rattle.std.specs.Option.{option_map}
use Rattle.dg_files.specs.Kept.{Entry}
use Rattle.dg_files.proofs.Trees.{bytes_at-tree_of}
use Rattle.dg_files.proofs.entries.bytes_at.Goals as goal

pub returns-in-Some : goal.returns-in-Some
returns-in-Some c =
    ap Some c.as_slice.ensures.value
    ∙ ap (λ entry. option_map (λ (f : Entry). f.1.items) entry) (c.in-Some.ensures ∙ ap (slice_get c.args.files.now) c.place_in.ensures)
    ∙ sym (bytes_at-tree_of c.args.files.now c.args.path.now)

pub returns-in-None : goal.returns-in-None
returns-in-None c =
    ap (λ entry. option_map (λ (f : Entry). f.1.items) entry) (c.in-None.ensures ∙ ap (slice_get c.args.files.now) c.place_in.ensures)
    ∙ sym (bytes_at-tree_of c.args.files.now c.args.path.now)
