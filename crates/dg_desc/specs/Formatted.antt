-- Texts that are formatted: each is the text that is printed of what it says.
use Rattle.std.specs.Prelude.{◌≡◌, ℕ, List, [], Result, Ok}
use Rattle.dg_ptext.specs.declared.tree.Field.{Field}
use Rattle.dg_ptext.specs.Printed.{printed}
use Rattle.dg_ptext.specs.Reading.{reading}
use Rattle.dg_desc.specs.declared.refusal.DescCode.{DescCode}

-- by what a tree is read as, and which tree that is printed as
pub record IsFormatted {D : Type 0} (reads : List Field → Result D DescCode) (prints : D → List Field) (text : List ℕ) : Type 0 where
  pub tree : List Field
  pub desc : D
  pub text_says : reading text ≡ Ok tree
  pub tree_says : reads tree ≡ Ok desc
  pub printed_again : printed [] (prints desc) ≡ text
