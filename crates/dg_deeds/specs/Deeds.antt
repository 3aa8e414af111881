-- What deeds make of a tree of files and of the bytes of a sink, and what is done of them where they are cut off.
use Rattle.std.specs.Prelude.{◌≡◌, ◌⊎◌, ℕ, List, [], ◌∷◌, ◌++◌, Option}
use Rattle.std.specs.Option.{option_map}
use Rattle.dg_files.specs.Outcome.{IsLeftByFailure}
use Rattle.dg_files.specs.Tree.{Tree, written}
use Rattle.dg_deeds.specs.declared.deed.Deed.{Deed}
use Rattle.dg_deeds.specs.declared.deed.Deed.TheVariants.{Write, Put}
use Rattle.dg_deeds.specs.declared.deed.Stop.{Stop}
use Rattle.dg_deeds.specs.declared.deed.Stop.TheVariants as stop
use Rattle.dg_deeds.specs.Printed.{GotPrefix}

-- the tree behind one deed, and behind all of them in order
abbrev pub tree_with : Deed → Tree → Tree
tree_with (Write path bytes) tree = written tree path bytes
tree_with (Put line) tree = tree

abbrev pub tree_after : List Deed → Tree → Tree
tree_after [] tree = tree
tree_after (deed ∷ deeds) tree = tree_after deeds (tree_with deed tree)

-- the bytes behind one deed, and behind all of them in order
abbrev pub text_with : Deed → List ℕ → List ℕ
text_with (Write path bytes) text = text
text_with (Put line) text = text ++ line

abbrev pub text_after : List Deed → List ℕ → List ℕ
text_after [] text = text
text_after (deed ∷ deeds) text = text_after deeds (text_with deed text)

-- the lines among them, in order
abbrev pub lines_in : List Deed → List (List ℕ)
lines_in [] = []
lines_in (Write path bytes ∷ deeds) = lines_in deeds
lines_in (Put line ∷ deeds) = line ∷ lines_in deeds

-- a deed that touches no file, and such ones alone
abbrev pub IsLine : Deed → Type 0
IsLine (Write path bytes) = ⊥
IsLine (Put line) = Unit {0}

abbrev pub AreLines : List Deed → Type 0
AreLines [] = Unit {0}
AreLines (deed ∷ deeds) = IsLine deed × AreLines deeds

-- ---- cut off. Trees and bytes are there where the files and the sink tell them

-- nothing is done
abbrev pub IsUntouched : Option Tree → Option Tree → Option (List ℕ) → Option (List ℕ) → Type 0
IsUntouched tree tree_now text text_now = (tree_now ≡ tree) × (text_now ≡ text)

-- a part of a deed is done. A fault of the files stops at a write, and leaves what a failed write leaves, with the bytes
-- as they were; a fault of the sink stops at a line, and leaves a first part of it, with the tree as it was. Want of
-- memory stops at a line in the same way, and at a write before any of it is done
abbrev pub IsPartOf : Stop → Deed → Option Tree → Option Tree → Option (List ℕ) → Option (List ℕ) → Type 0
IsPartOf stop.FileFault (Write path bytes) tree tree_now text text_now = IsLeftByFailure tree tree_now path bytes × (text_now ≡ text)
IsPartOf stop.FileFault (Put line) tree tree_now text text_now = ⊥
IsPartOf stop.SinkFault (Write path bytes) tree tree_now text text_now = ⊥
IsPartOf stop.SinkFault (Put line) tree tree_now text text_now = (tree_now ≡ tree) × GotPrefix text text_now line
IsPartOf stop.NoMemory (Write path bytes) tree tree_now text text_now = IsUntouched tree tree_now text text_now
IsPartOf stop.NoMemory (Put line) tree tree_now text text_now = (tree_now ≡ tree) × GotPrefix text text_now line

-- all is done, and what stopped the run is want of memory behind it
abbrev pub IsBehindAll : Stop → Option Tree → Option Tree → Option (List ℕ) → Option (List ℕ) → Type 0
IsBehindAll stop.NoMemory tree tree_now text text_now = IsUntouched tree tree_now text text_now
IsBehindAll _ tree tree_now text text_now = ⊥

-- the first of the deeds are done, and of the next one a part
abbrev pub IsBegun : Stop → List Deed → Option Tree → Option Tree → Option (List ℕ) → Option (List ℕ) → Type 0
IsBegun s [] tree tree_now text text_now = IsBehindAll s tree tree_now text text_now
IsBegun s (deed ∷ deeds) tree tree_now text text_now =
    IsPartOf s deed tree tree_now text text_now
    ⊎ IsBegun s deeds (option_map (tree_with deed) tree) tree_now (option_map (text_with deed) text) text_now
