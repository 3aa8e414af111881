use Rattle.std.proofs.Common.{◌≡◌, ◌∙◌, ap, arith}
use Rattle.dg_files.specs.Tree.{written}
use Rattle.dg_files.specs.Kept.{tree_of, place_in}
use Rattle.dg_files.proofs.Trees.{tree_of-set_at, tree_of-append}
use Rattle.dg_files.proofs.entries.put_bytes.Goals as goal

pub returns-then-place-len-clause-ok : goal.returns-then-place-len-clause-ok
returns-then-place-len-clause-ok c =
    let there : c.place_in-place.result ≡ place_in (tree_of c.args.files.now.items) c.args.path.now =
    c.place_in-place.ensures ∙ ap (λ fs. place_in (tree_of fs) c.args.path.now) c.deref.ensures.value in
    tree_of-set_at c.args.files.now.items c.args.path.now c.args.bytes.now c.place_in-place.result c.index_mut.result.now c.in_ok-kept.kept
    there (omega arith) c.index_mut.ensures.value c.in_ok-kept.ensures.items

pub returns-in_ok-push-clause-ok : goal.returns-in_ok-push-clause-ok
returns-in_ok-push-clause-ok c =
    let there : c.place_in-place.result ≡ place_in (tree_of c.args.files.now.items) c.args.path.now =
    c.place_in-place.ensures ∙ ap (λ fs. place_in (tree_of fs) c.args.path.now) c.deref.ensures.value in
    ap tree_of c.in_ok-push.ensures.items
    ∙ tree_of-append c.args.files.now.items c.args.path.now c.in_ok-name.name c.in_ok-kept.kept (omega arith) c.in_ok-name.ensures.ok
    ∙ ap (λ bs. written (tree_of c.args.files.now.items) c.args.path.now bs) c.in_ok-kept.ensures.items
