-- A file that is printed says what is printed as the same text.
use Rattle.std.proofs.Common.{◌≡◌, ℕ, List, [], Ok, ap, sym, subst, ◌∙◌}
use Rattle.dg_ptext.specs.declared.tree.Field.{Field}
use Rattle.dg_ptext.specs.Printed.{printed}
use Rattle.dg_ptext.specs.Reading.{reading}
use Rattle.dg_ptext.proofs.FieldsSpelled.{AreSpelled, tree_spelled, spelled_reads}
use Rattle.dg_desc.specs.declared.known.Message.{Message}
use Rattle.dg_desc.specs.declared.known.Message.TheVariants as messages
use Rattle.dg_desc.specs.declared.descs.GoDesc.{GoDesc}
use Rattle.dg_desc.specs.declared.descs.CollDesc.{CollDesc}
use Rattle.dg_desc.specs.Faults.{fault_of}
use Rattle.dg_desc.specs.Descs.{go_of, coll_of, unless_fault, go_reading, coll_reading}
use Rattle.dg_desc.specs.Trees.{go_tree, coll_tree}
use Rattle.dg_desc.specs.Canonical.{canonical_go, canonical_coll}
use Rattle.dg_desc.specs.Formatted.{IsFormatted}
use Rattle.dg_desc.proofs.SameFaults.{fault_same}
use Rattle.dg_desc.proofs.SameTrees.{AreSame, are_same, from_same}
use Rattle.dg_desc.proofs.SamePrinted.{printed_same, go_same, coll_same}
use Rattle.dg_desc.proofs.PrintsAgain.{go_printed, coll_printed}
use Rattle.dg_desc.proofs.PrintedSpelled.{go_spelled, coll_spelled}
use Rattle.dg_desc.proofs.Accepted.{accepted, go_reads_again, coll_reads_again}

-- by the laws of one sort of file: its canonical form is printed alike, and lines don't matter
formatted_by : {D : Type 0} (m : Message) (says : List Field → D) (prints : D → List Field) (canonical : D → D)
    → ((d : D) → prints (canonical d) ≡ prints d)
    → ((xs ys : List Field) → AreSame xs ys → AreSame (prints (says xs)) (prints (says ys)))
    → (desc : D) → unless_fault (fault_of m 1 (prints desc)) (says (prints desc)) ≡ Ok (canonical desc) → AreSpelled 0 (prints desc)
    → IsFormatted (λ tree. unless_fault (fault_of m 1 tree) (says tree)) prints (printed [] (prints desc))
formatted_by m says prints canonical printed_alike same desc reads spelled =
    let again = spelled_reads (prints desc) spelled in
    let parts = accepted (fault_of m 1 (prints desc)) (says (prints desc)) (canonical desc) reads in
    let once = prints (says (prints desc)) in
    let twice = prints (says again.0) in
    let alike = from_same once twice (same (prints desc) again.0 (are_same (prints desc) again.0 again.2)) in
    record {
      tree = again.0;
      desc = says again.0;
      text_says = again.1;
      tree_says = ap (λ o. unless_fault o (says again.0)) (fault_same m 1 1 (prints desc) again.0 again.2 parts.0);
      printed_again = sym (printed_same [] once twice alike) ∙ (ap (λ d. printed [] (prints d)) parts.1 ∙ ap (printed []) (printed_alike desc));
    }

pub go_formatted : (bytes : List ℕ) (tree : List Field) (desc : GoDesc) → reading bytes ≡ Ok tree → go_reading tree ≡ Ok desc
    → IsFormatted go_reading go_tree (printed [] (go_tree desc))
go_formatted bytes tree desc says h =
    let is = accepted (fault_of messages.Go 1 tree) (go_of tree) desc h in
    formatted_by messages.Go go_of go_tree canonical_go go_printed go_same desc (go_reads_again tree desc h)
    (subst (λ (d : GoDesc). AreSpelled 0 (go_tree d)) is.1 (go_spelled tree (tree_spelled bytes tree says)))

pub coll_formatted : (bytes : List ℕ) (tree : List Field) (desc : CollDesc) → reading bytes ≡ Ok tree → coll_reading tree ≡ Ok desc
    → IsFormatted coll_reading coll_tree (printed [] (coll_tree desc))
coll_formatted bytes tree desc says h =
    let is = accepted (fault_of messages.Coll 1 tree) (coll_of tree) desc h in
    formatted_by messages.Coll coll_of coll_tree canonical_coll coll_printed coll_same desc (coll_reads_again tree desc h)
    (subst (λ (d : CollDesc). AreSpelled 0 (coll_tree d)) is.1 (coll_spelled tree (tree_spelled bytes tree says)))
