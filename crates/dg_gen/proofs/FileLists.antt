-- The tree of a list of files with one file more.
use Rattle.std.proofs.Common.{◌≡◌, ◌∙◌, List, [], ◌∷◌, ◌++◌, refl, ap, string_bytes, append_assoc}
use Rattle.dg_files.specs.Tree.{File, Tree}
use Rattle.dg_files.specs.Kept.{Entry, tree_of}
use Rattle.dg_gen.specs.Files.{file}

pub tree_more : (files : List Entry) (one : Entry) → tree_of (files ++ one ∷ []) ≡ tree_of files ++ file (string_bytes one.0) one.1.items ∷ []
tree_more [] one = refl
tree_more (f ∷ files) one = ap (λ (t : Tree). file (string_bytes f.0) f.1.items ∷ t) (tree_more files one)

-- two files put one after the other
pub two_put : (old mid new : Tree) (a b : File) → mid ≡ old ++ a ∷ [] → new ≡ mid ++ b ∷ [] → new ≡ old ++ a ∷ b ∷ []
two_put old mid new a b first second = second ∙ ap (λ (t : Tree). t ++ b ∷ []) first ∙ append_assoc old (a ∷ []) (b ∷ [])
